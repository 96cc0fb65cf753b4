-- One link over the moments of a run: what one end sends, and what the other end holds of it.
use Rattle.std.specs.Prelude.{◌≡◌, ℕ, zero, suc, ◌≤◌, nat_le, Bool, cond, List, [], ◌∷◌, ◌++◌, ◌⊎◌, length, slice_get, Some}

-- what is held after messages, applied one after the other
abbrev pub replay : {Set Message : Type 0} → (Set → Message → Set) → Set → List Message → Set
replay apply held [] = held
replay apply held (message ∷ messages) = replay apply (apply held message) messages

-- a link at each moment: what its one end has to send, the messages put, how many are received, and what the other end holds
pub record Link (Set Message : Type 0) : Type 0 where
  pub sent : ℕ → Set
  pub put : ℕ → List Message
  pub taken : ℕ → ℕ
  pub held : ℕ → Set

-- from one moment to the next at most one message is put, and it makes what was sent what is sent now
pub record IsPutStep {Set Message : Type 0} (apply : Set → Message → Set) (link : Link Set Message) (moment : ℕ) : Type 0 where
  pub rest : List Message
  pub grows : link.put (suc moment) ≡ link.put moment ++ rest
  pub short : length rest ≤ 1
  pub makes : replay apply (link.sent moment) rest ≡ link.sent (suc moment)

-- the next message is received
pub record IsReceiveStep {Set Message : Type 0} (apply : Set → Message → Set) (link : Link Set Message) (moment : ℕ) : Type 0 where
  pub message : Message
  pub next : slice_get (link.put moment) (link.taken moment) ≡ Some message
  pub counts : link.taken (suc moment) ≡ suc (link.taken moment)
  pub applies : link.held (suc moment) ≡ apply (link.held moment) message

-- nothing is received
pub record IsStayStep {Set Message : Type 0} (link : Link Set Message) (moment : ℕ) : Type 0 where
  pub counts : link.taken (suc moment) ≡ link.taken moment
  pub keeps : link.held (suc moment) ≡ link.held moment

-- one end puts what turns what it sent into what it sends, and the other end receives the messages in order; at first nothing is on its way
pub record IsLink {Set Message : Type 0} (apply : Set → Message → Set) (link : Link Set Message) : Type 0 where
  pub still : link.taken 0 ≡ length (link.put 0)
  pub agrees : link.held 0 ≡ link.sent 0
  pub puts : (moment : ℕ) → IsPutStep apply link moment
  pub takes : (moment : ℕ) → IsStayStep link moment ⊎ IsReceiveStep apply link moment

-- the last moment up to a given one at which a test holds
abbrev pub last_where : (ℕ → Bool) → ℕ → ℕ
last_where test zero = zero
last_where test (suc moment) = cond (test (suc moment)) (suc moment) (last_where test moment)

-- the last moment up to a given one at which no more was put than is received at the given one
abbrev pub back_on : {Set Message : Type 0} → Link Set Message → ℕ → ℕ
back_on link moment = last_where (λ earlier. nat_le (length (link.put earlier)) (link.taken moment)) moment
