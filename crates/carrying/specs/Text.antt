-- The line on standard error.
use Rattle.std.specs.Prelude.{ℕ, List, ◌++◌, codes, Option, Some, None}
use Rattle.std.specs.Fmt.{decimal}
use Rattle.rules.specs.Calls.{number_of}
use Rattle.carrying.specs.declared.Stop.{Stop}
use Rattle.carrying.specs.declared.Stop.TheVariants.{Refused, Unread, CannotRead, CannotWrite, NoRoom}

-- which refusal, and after how many bytes of input; the words for an error are the system's
abbrev pub said_of : Stop → Option (List ℕ)
said_of (Refused k used) = Some (codes "refusal " ++ decimal (number_of k) ++ codes " at byte " ++ decimal used)
said_of Unread = None
said_of (CannotRead e) = None
said_of (CannotWrite e) = None
said_of NoRoom = None
