-- The rule of the shared queue: what each sender posted is what was taken of it and then what the
-- queue holds of it.
use Rattle.std.specs.Prelude.{◌≡◌, ℕ, ◌+◌, ◌<◌, ◌≤◌, ◌⊎◌, true, false, List, [], ◌∷◌, ◌++◌}
use mathlib.Core.Option.{some}
use lib.ListN.{get_elem?}
use Rattle.mailbox.specs.Entries.{sent_by, own}
use Rattle.mailbox.specs.declared.entry.Entry.{Entry}
use Rattle.mailbox.specs.declared.entry.Stamped.{Stamped}
use Rattle.mailbox.specs.declared.view.PortLog.{PortLog}
use Rattle.mailbox.specs.declared.view.View.{View}

module _ {T : Type 0} where
  -- the log of one sender
  abbrev pub log : ℕ → List (Entry T) → PortLog T
  log k es = record { from = k; entries = es }

  -- what the pass of a port knows
  abbrev pub port : ℕ → List (Entry T) → View T
  port k es = record { logs = log k es ∷ []; takes = false; made = 0; got = [] }

  -- what the pass of the mouth knows
  abbrev pub mouth : List (PortLog T) → ℕ → List (Stamped T) → View T
  mouth logs made got = record { logs = logs; takes = true; made = made; got = got }

  abbrev pub got_by : View T → List (Stamped T)
  got_by v = v.got

  -- what a pass knows once it was joined to another
  abbrev pub spent : View T
  spent = record { logs = []; takes = false; made = 0; got = [] }

  -- what the first pass of a queue knows
  abbrev pub newcomer : View T
  newcomer = mouth [] 0 []

  -- a mouth that has made one port more, and that port
  abbrev pub one_more : View T → View T
  one_more v = mouth v.logs (v.made + 1) v.got

  abbrev pub new_port : View T → View T
  new_port v = port v.made []

  -- a mouth that has the logs of another pass too
  abbrev pub joined : View T → View T → View T
  joined v w = mouth (v.logs ++ w.logs) v.made v.got

  -- the log is one of these
  abbrev pub Has : PortLog T → List (PortLog T) → Type 0
  Has h [] = ⊥
  Has h (x ∷ xs) = (h ≡ x) ⊎ Has h xs

  -- each log in this view has all entries of its sender, and belongs to a port that was made and to
  -- no other pass
  abbrev pub Holds : ℕ → (ℕ → ℕ) → List (Stamped T) → ℕ → View T → Type 0
  Holds made seat all p v = (h : PortLog T) → Has h v.logs → (h.from < made) × (seat h.from ≡ p) × (h.entries ≡ sent_by h.from all)

  -- one pass alone takes, and it knows how many ports were made and all that was taken
  abbrev pub MayTake : ℕ → ℕ → List (Stamped T) → ℕ → View T → Type 0
  MayTake reader made got p v = v.takes ≡ true → (p ≡ reader) × (v.made ≡ made) × (v.got ≡ got)

  -- each port's entries are those of its sender in what the mouth took and then in what the queue
  -- holds, and a port that was not made has none
  pub record Delivers (items : List (Stamped T)) (views : List (View T)) : Type 0 where
    pub reader : ℕ
    pub made : ℕ
    pub seat : ℕ → ℕ
    pub got : List (Stamped T)
    pub unmade : (k : ℕ) → made ≤ k → sent_by k (got ++ items) ≡ []
    pub logs : (p : ℕ) (v : View T) → get_elem? views p ≡ some v → Holds made seat (got ++ items) p v
    pub taker : (p : ℕ) (v : View T) → get_elem? views p ≡ some v → MayTake reader made got p v

  -- what a push tells a port
  abbrev pub Posted : View T → Stamped T → View T → Type 0
  Posted v x w = w ≡ port x.from (own v ++ x.entry ∷ [])

  -- what a pop tells the mouth
  abbrev pub Taken : View T → Stamped T → View T → Type 0
  Taken v x w = w ≡ mouth v.logs v.made (v.got ++ x ∷ [])

  -- what the mouth learns of what the queue holds
  abbrev pub Accounts : View T → List (Stamped T) → Type 0
  Accounts v items = (h : PortLog T) → Has h v.logs → h.entries ≡ sent_by h.from (v.got ++ items)
