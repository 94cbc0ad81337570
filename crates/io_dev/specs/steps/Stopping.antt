-- What the errors of the system tell.
use Rattle.std.specs.Prelude.{Bool, true, false}
use Rattle.std.specs.declared.io.ErrorKind.{ErrorKind}
use Rattle.std.specs.declared.io.ErrorKind.TheVariants.{OutOfMemory}
use Rattle.io_dev.specs.declared.disk_files.Stop.{Stop}
use Rattle.io_dev.specs.declared.disk_files.Stop.TheVariants as stop

-- whether an error of this kind tells want of memory
abbrev pub is_out_of_memory : ErrorKind → Bool
is_out_of_memory OutOfMemory = true
is_out_of_memory _ = false

-- want of memory, and each other kind of error a fault
abbrev pub stop_of : ErrorKind → Stop
stop_of OutOfMemory = stop.Memory
stop_of _ = stop.Fault
