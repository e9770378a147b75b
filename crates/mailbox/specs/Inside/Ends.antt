-- Where the end marks of senders stand.
use Rattle.std.specs.Prelude.{Bool, true, false, List, [], ◌∷◌}
use Rattle.mailbox.specs.Entries.{sent_by, has_end}
use Rattle.mailbox.specs.declared.entry.Entry.{Entry}
use Rattle.mailbox.specs.declared.entry.Entry.TheVariants.{Item, End}
use Rattle.mailbox.specs.declared.entry.Stamped.{Stamped}

module _ {T : Type 0} where
  -- of each of the five senders, whether its end mark stands among them
  abbrev pub ends_in : List (Stamped T) → List Bool
  ends_in xs = has_end (sent_by 0 xs) ∷ has_end (sent_by 1 xs) ∷ has_end (sent_by 2 xs) ∷ has_end (sent_by 3 xs) ∷ has_end (sent_by 4 xs) ∷ []

  -- an end mark stands last, and nowhere else
  abbrev pub ends_once : List (Entry T) → Bool
  ends_once [] = false
  ends_once (Item x ∷ es) = ends_once es
  ends_once (End ∷ []) = true
  ends_once (End ∷ (e ∷ es)) = false
