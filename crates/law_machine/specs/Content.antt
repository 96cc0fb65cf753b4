-- Defines the content of links: what a server holds of a neighbour, with what is on its way, is what the neighbour sent.
use Rattle.std.specs.Prelude.{◌≡◌, ℕ, Some, List, [], ◌∷◌, drop}
use Rattle.law_machine.specs.Machine.{Has, Machine, Input, Does, Receives, Made, Stamped}
use Rattle.law_machine.specs.Network.{NetworkState}
use Rattle.law_machine.specs.Runs.{IsWithinPuts}

module _ (machine : Machine) where
  -- one kind of content: what a server in a state has sent to a link, what it holds of a link, and what a message makes of that
  pub record Content : Type 1 where
    pub Set : Type 0
    pub sent : ℕ → machine.State → ℕ → Set
    pub held : ℕ → machine.State → ℕ → Set
    pub apply : Set → machine.Message → Set

  -- a content of lists of numbers, by its three functions
  abbrev pub number_content : (sent held : ℕ → machine.State → ℕ → List ℕ) → (List ℕ → machine.Message → List ℕ) → Content
  number_content sent held apply = record { Set = List ℕ; sent = sent; held = held; apply = apply }

  -- no server is its own neighbour, and neighbours are mutual
  pub record HasMutualLinks : Type 0 where
    pub apart : (a : ℕ) → Has a (machine.links a) → ⊥
    pub both : (a b : ℕ) → Has b (machine.links a) → Has a (machine.links b)

  module _ (content : Content) where
    -- what messages make of a content, one after the other
    abbrev pub replayed : content.Set → List machine.Message → content.Set
    replayed held [] = held
    replayed held (message ∷ messages) = replayed (content.apply held message) messages

    -- the same of messages with their stamps
    abbrev pub replayed_frames : content.Set → List (Stamped machine.Message) → content.Set
    replayed_frames held [] = held
    replayed_frames held (message ∷ messages) = replayed_frames (content.apply held message.message) messages

    -- laws of one server's step alone
    pub record ContentLaws : Type 0 where
      -- the messages of a step turn what was sent into what is sent
      pub puts : (t : ℕ) (s : machine.State) (d : Input machine.Task machine.Message) (r : Made machine) → machine.step t s d ≡ Some r
          → (v : ℕ) → Has v (machine.links t) → replayed (content.sent t s v) (r.outs v) ≡ content.sent t r.state v
      -- a reception applies its message to what is held of that link, and leaves the other links
      pub takes : (t : ℕ) (s : machine.State) (u : ℕ) (x : machine.Message) (r : Made machine) → machine.step t s (Receives u x) ≡ Some r
          → content.held t r.state u ≡ content.apply (content.held t s u) x
      pub others : (t : ℕ) (s : machine.State) (u : ℕ) (x : machine.Message) (r : Made machine) → machine.step t s (Receives u x) ≡ Some r
          → (v : ℕ) → Has v (machine.links t) → (v ≡ u → ⊥) → content.held t r.state v ≡ content.held t s v
      -- a task of its own leaves all links
      pub own : (t : ℕ) (s : machine.State) (a : machine.Task) (r : Made machine) → machine.step t s (Does a) ≡ Some r
          → (v : ℕ) → Has v (machine.links t) → content.held t r.state v ≡ content.held t s v

    -- on each link what is held, with what is on its way, is what was sent
    abbrev pub IsHeldSent : NetworkState machine → Type 0
    IsHeldSent network = (a b : ℕ) → Has b (machine.links a)
        → replayed_frames (content.held b (network.state b) a) (drop (network.taken a b) (network.put a b)) ≡ content.sent a (network.state a) b

    -- no more is received than was put, and on each link what is held, with what is on its way, is what was sent
    abbrev pub IsSentKept : NetworkState machine → Type 0
    IsSentKept network = IsWithinPuts machine network × IsHeldSent network
