-- Defines the texts of one line: of `check` and of a summary.
use Rattle.std.specs.Prelude.{ℕ, List, ◌++◌, length, codes}
use Rattle.base.specs.Text.{labelled}
use Rattle.base.specs.Numbers.{sum_over}
use Rattle.net_model.specs.Parts.{NetParts}
use Rattle.net_model.specs.Nets.{first_tree, phases_of}
use Rattle.net_model.specs.Sound.{publishes, controls}

-- what a net has, by numbers
unfoldable pub counts_text : ℕ → ℕ → ℕ → ℕ → ℕ → ℕ → List ℕ
counts_text version servers clients phases commands publications =
    labelled (codes "ok version ") version ++ labelled (codes " servers ") servers ++ labelled (codes " clients ") clients
    ++ labelled (codes " phases ") phases ++ labelled (codes " commands ") commands ++ labelled (codes " publications ") publications ++ codes "\n"

-- what a net has: its version, servers, clients and phases, the commands that are no publishes, and those that are
abbrev pub check_text : NetParts → List ℕ
check_text net =
    counts_text net.version (first_tree net.trees).count (length net.clients) (phases_of net)
    (sum_over controls net.clients) (sum_over publishes net.clients)

-- how much a run did
unfoldable pub summary_text : ℕ → ℕ → ℕ → ℕ → List ℕ
summary_text publications deliveries entries messages =
    labelled (codes "publications ") publications ++ labelled (codes " deliveries ") deliveries ++ labelled (codes " entries ") entries
    ++ labelled (codes " messages ") messages ++ codes "\n"
