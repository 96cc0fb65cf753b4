-- How far messages spread: what is on its way is weighed, and each reception makes it lighter.
use Rattle.std.specs.Prelude.{◌≡◌, ℕ, suc, ◌+◌, ◌*◌, ◌≤◌, ◌==◌, Bool, true, false, cond, List, [], length, drop, Some}
use Rattle.base.specs.Numbers.{sum_over, count, IsDistinct}
use Rattle.law_machine.specs.Machine.{Has, Machine, Input, Does, Receives, Made, Act, Did, Received, Entry}
use Rattle.law_machine.specs.Network.{NetworkState}
use Rattle.law_machine.specs.Runs.{IsWithinPuts, Run}

-- the sum of the sizes but that of one
abbrev pub other_sizes : (ℕ → ℕ) → ℕ → List ℕ → ℕ
other_sizes size but links = sum_over (λ link. cond (link == but) 0 (size link)) links

module _ (machine : Machine) where
  -- what the load is measured by
  pub record Measure : Type 0 where
    -- size a b: how many servers stand on b's side of the edge from a to b
    pub size : ℕ → ℕ → ℕ
    -- an advertisement message, which may make a filter message back
    pub wide : machine.Message → Bool
    -- the task that installs what is pending
    pub table_update : machine.Task → Bool
    -- how many commands are left at a server
    pub left : ℕ → machine.State → ℕ

  module _ (measure : Measure) where
    -- what is asked of a measure: the links are a tree with these sizes, and messages travel away from where they began
    pub record MeasureLaws : Type 0 where
      pub distinct : IsDistinct machine.servers
      pub single : (a : ℕ) → IsDistinct (machine.links a)
      pub linked : (a b : ℕ) → Has b (machine.links a) → Has a machine.servers
      pub both : (a b : ℕ) → Has b (machine.links a) → Has a (machine.links b)
      pub apart : (a : ℕ) → Has a (machine.links a) → ⊥
      pub weighs : (a b : ℕ) → Has b (machine.links a) → measure.size a b ≡ suc (other_sizes (measure.size b) a (machine.links b))
      pub total : (t : ℕ) → Has t machine.servers → suc (sum_over (measure.size t) (machine.links t)) ≡ length machine.servers
      pub among : (t : ℕ) (s : machine.State) (d : Input machine.Task machine.Message) (r : Made machine) → machine.step t s d ≡ Some r → Has t machine.servers
      -- a step puts at most one message on a link
      pub one : (t : ℕ) (s : machine.State) (d : Input machine.Task machine.Message) (r : Made machine) → machine.step t s d ≡ Some r
          → (v : ℕ) → Has v (machine.links t) → length (r.outs v) ≤ 1
      pub from : (t : ℕ) (s : machine.State) (u : ℕ) (x : machine.Message) (r : Made machine) → machine.step t s (Receives u x) ≡ Some r
          → Has u (machine.links t)
      pub silent : (t : ℕ) (s : machine.State) (a : machine.Task) (r : Made machine) → machine.step t s (Does a) ≡ Some r
          → measure.table_update a ≡ true → (v : ℕ) → r.outs v ≡ []
      -- a plain message makes plain ones, and none back
      pub back : (t : ℕ) (s : machine.State) (u : ℕ) (x : machine.Message) (r : Made machine) → machine.step t s (Receives u x) ≡ Some r
          → measure.wide x ≡ false → r.outs u ≡ []
      pub plain : (t : ℕ) (s : machine.State) (u : ℕ) (x : machine.Message) (r : Made machine) → machine.step t s (Receives u x) ≡ Some r
          → measure.wide x ≡ false → (v : ℕ) (y : machine.Message) → Has y (r.outs v) → measure.wide y ≡ false
      -- a wide one makes a plain one back
      pub back_plain : (t : ℕ) (s : machine.State) (u : ℕ) (x : machine.Message) (r : Made machine) → machine.step t s (Receives u x) ≡ Some r
          → (y : machine.Message) → Has y (r.outs u) → measure.wide y ≡ false
      -- a table update installs what is pending, another task executes a command
      pub clears : (t : ℕ) (s : machine.State) (a : machine.Task) (r : Made machine) → machine.step t s (Does a) ≡ Some r
          → measure.table_update a ≡ true → (machine.pending t s ≡ true) × (machine.pending t r.state ≡ false)
      pub uses : (t : ℕ) (s : machine.State) (a : machine.Task) (r : Made machine) → machine.step t s (Does a) ≡ Some r
          → measure.table_update a ≡ false → suc (measure.left t r.state) ≤ measure.left t s
      pub keeps : (t : ℕ) (s : machine.State) (d : Input machine.Task machine.Message) (r : Made machine) → machine.step t s d ≡ Some r
          → measure.left t r.state ≤ measure.left t s

    -- the commands that are left
    abbrev pub remaining : NetworkState machine → ℕ
    remaining network = sum_over (λ t. measure.left t (network.state t)) machine.servers

    -- how many receptions a message on a link can lead to
    abbrev pub weight_of : ℕ → ℕ → machine.Message → ℕ
    weight_of a b message = cond (measure.wide message) (length machine.servers * measure.size a b) (measure.size a b)

    -- the weight of what is on its way on a link
    abbrev pub link_load : NetworkState machine → ℕ → ℕ → ℕ
    link_load network a b = sum_over (λ stamped. weight_of a b stamped.message) (drop (network.taken a b) (network.put a b))

    -- of a server: of all its links
    abbrev pub server_load : NetworkState machine → ℕ → ℕ
    server_load network a = sum_over (link_load network a) (machine.links a)

    -- of the network: of all servers
    abbrev pub load : NetworkState machine → ℕ
    load network = sum_over (server_load network) machine.servers

    -- how many servers have something pending
    abbrev pub pending_count : NetworkState machine → ℕ
    pending_count network = sum_over (λ t. count (machine.pending t (network.state t))) machine.servers

    -- whether an act is a reception
    abbrev pub is_reception : Act machine.Task → Bool
    is_reception (Did task) = false
    is_reception (Received from) = true

    -- whether it is a table update
    abbrev pub is_update : Act machine.Task → Bool
    is_update (Did task) = measure.table_update task
    is_update (Received from) = false

    -- whether it is a command
    abbrev pub is_command : Act machine.Task → Bool
    is_command (Did task) = cond (measure.table_update task) false true
    is_command (Received from) = false

    -- how many entries of a journal are receptions
    abbrev pub receptions : List (Entry machine) → ℕ
    receptions entries = sum_over (λ entry. count (is_reception entry.act)) entries

    -- how many are table updates
    abbrev pub updates : List (Entry machine) → ℕ
    updates entries = sum_over (λ entry. count (is_update entry.act)) entries

    -- how many are commands
    abbrev pub commands : List (Entry machine) → ℕ
    commands entries = sum_over (λ entry. count (is_command entry.act)) entries

    -- a run that begins with nothing on its way and nothing pending
    pub record BeginsQuiet (run : Run machine) : Type 0 where
      pub within : IsWithinPuts machine run.start
      pub light : load run.start ≡ 0
      pub calm : pending_count run.start ≡ 0

    -- the commands of these entries and the number of servers bound how many of them are receptions, and how many there are
    pub record IsBoundedByCommands (entries : List (Entry machine)) : Type 0 where
      pub of_receptions : receptions entries ≤ commands entries * (length machine.servers * length machine.servers)
      pub of_all : length entries ≤ 2 * (commands entries * (length machine.servers * length machine.servers + 1))
