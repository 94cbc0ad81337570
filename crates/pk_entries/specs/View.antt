-- The frames that the code's values stand for.
use Rattle.cc_line.specs.Running.{Kept}
use Rattle.cc_line.specs.View.{piece_view}
use Rattle.pk_entries.specs.declared.entry.Entry.{Entry}

abbrev pub entry_view : Entry → Kept
entry_view e = record { places = e.places.items; follows = piece_view e.follows }
