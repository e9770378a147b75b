-- Five lists in one order.
use Rattle.std.specs.Prelude.{◌≡◌, ℕ, ◌<◌, ◌==◌, All, List, [], ◌∷◌, ◌++◌, length, slice_index_or, if◌then◌else◌}
use Rattle.mailbox.specs.Ports.{address, posted, closed_address, closed_posted}
use Rattle.mailbox.specs.declared.port.Port.{Port}
use Rattle.mailbox.specs.declared.port.ClosedPort.{ClosedPort}
use Rattle.mailbox.specs.declared.opening.Ports.{Ports}
use Rattle.mailbox.specs.declared.settling.ClosedPorts.{ClosedPorts}
use Rattle.uses.specs.declared.five_senders.Lists.{Lists}
use Rattle.uses.specs.declared.five_senders.team.Team.{Team}
use Rattle.uses.specs.declared.five_senders.gathered.Gathered.{Gathered}

module _ {T : Type 0} where
  abbrev pub lists_of : Lists T → List (List T)
  lists_of lists = lists.l0.items ∷ lists.l1.items ∷ lists.l2.items ∷ lists.l3.items ∷ lists.l4.items ∷ []

  -- the items that the order gives to sender s
  abbrev pub picked : ℕ → List ℕ → List T → List T
  picked s [] xs = []
  picked s (t ∷ ts) [] = []
  picked s (t ∷ ts) (x ∷ xs) = if s == t then x ∷ picked s ts xs else picked s ts xs

  -- each item is of a sender, and each sender has all items of its list, in the list's order
  pub record IsMergeOf (lists : List (List T)) (order : List ℕ) (items : List T) : Type 0 where
    pub senders : All (λ t. t < 5) order
    pub paired : length order ≡ length items
    pub lists_are : (s : ℕ) → s < 5 → picked s order items ≡ slice_index_or lists s []

  -- a worker posted this list after what the port had posted, and closed the port
  pub record HasPosted (port : Port T) (list : List T) (closed : ClosedPort T) : Type 0 where
    pub address_is : closed_address closed ≡ address port
    pub posted_is : closed_posted closed ≡ posted port ++ list

  -- each worker did so with its port and its list
  pub record HavePosted (ports : Ports T) (lists : Lists T) (closed : ClosedPorts T) : Type 0 where
    pub p0 : HasPosted ports.p0 lists.l0.items closed.p0
    pub p1 : HasPosted ports.p1 lists.l1.items closed.p1
    pub p2 : HasPosted ports.p2 lists.l2.items closed.p2
    pub p3 : HasPosted ports.p3 lists.l3.items closed.p3
    pub p4 : HasPosted ports.p4 lists.l4.items closed.p4

  -- the ports and the lists that the workers were started with
  abbrev pub ports_of : Team T → Ports T
  ports_of team = record { p0 = team.w0.promise.0.value; p1 = team.w1.promise.0.value; p2 = team.w2.promise.0.value; p3 = team.w3.promise.0.value; p4 = team.w4.promise.0.value }

  abbrev pub given_lists : Team T → Lists T
  given_lists team = record { l0 = team.w0.promise.1.value; l1 = team.w1.promise.1.value; l2 = team.w2.promise.1.value; l3 = team.w3.promise.1.value; l4 = team.w4.promise.1.value }

  -- one item more was gathered
  pub record Adds (old : Gathered T) (from : ℕ) (item : T) (new : Gathered T) : Type 0 where
    pub order_is : new.order.items ≡ old.order.items ++ from ∷ []
    pub items_are : new.items.items ≡ old.items.items ++ item ∷ []

  -- what was taken of each sender since the beginning is what the order gives to it
  pub record Collects (before now : ℕ → List T) (gathered : Gathered T) : Type 0 where
    pub senders : All (λ t. t < 5) gathered.order.items
    pub taken_is : (s : ℕ) → now s ≡ before s ++ picked s gathered.order.items gathered.items.items
