-- Libraries whose modules may be linked.
use Rattle.wm_match.specs.Lists.{HasListsWithin}
use Rattle.wm_match.specs.declared.library.Library.{Library}

-- no list of the library's module is longer than a module may be
abbrev pub HasShortLists : Library → Type 0
HasShortLists library = HasListsWithin 1048576 library.module
