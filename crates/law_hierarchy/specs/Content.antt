-- Defines the content of the links that lead up: what a server has sent to its master.
use Rattle.std.specs.Prelude.{ℕ, cond, List, []}
use Rattle.law_machine.specs.Content.{Content}
use Rattle.law_routing.specs.Theory.{Theory}
use Rattle.law_routing.specs.Net.{Net}
use Rattle.law_routing.specs.Server.{ServerState}
use Rattle.law_routing.specs.Contents.{apply_filters}
use Rattle.law_hierarchy.specs.Masters.{is_master, up}
use Rattle.law_hierarchy.specs.Step.{hierarchy_machine}

module _ (theory : Theory) (net : Net theory) where
  -- what a server has sent to a neighbour of filters: to its master what goes up, and nothing down
  abbrev pub sent_up : ServerState theory → ℕ → ℕ → List theory.Filter
  sent_up state server link = cond (is_master theory net server link) (up theory net state server) []

  -- the filters of links, as a content
  abbrev pub filter_content : Content (hierarchy_machine theory net)
  filter_content = record { Set = List theory.Filter; sent = λ t s v. sent_up s t v; held = λ t s u. s.subs u; apply = apply_filters theory net }
