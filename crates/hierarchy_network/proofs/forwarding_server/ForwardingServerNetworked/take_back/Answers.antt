use Rattle.std.proofs.Common.{◌<◌, ◌^◌, ℕ, length, map, sym, ap, subst, ◌∙◌}
use Rattle.std.proofs.lemmas.List.{length-map}
use Rattle.base.specs.Sets.{Has}
use Rattle.sequential_network.specs.Stepping.{greatest_clock}
use Rattle.hierarchy_network.specs.Clocks.{clock_from, with_clocks}
use Rattle.hierarchy_network.specs.Stepping.{hierarchy}
use Rattle.hierarchy_network.proofs.Grown.{stays_kept}
use Rattle.hierarchy_network.proofs.Raised.{clocks-long, set-back}
use Rattle.hierarchy_network.proofs.forwarding_server.ForwardingServerNetworked.take_back.Goals as goal

pub set_clocks-requires-clause-long : goal.set_clocks-requires-clause-long
set_clocks-requires-clause-long c =
    let old = c.requires.0 in
    let were = c.requires.1 in
    ap length (c.deref.ensures.value ∙ were.clocks) ∙ length-map old (clock_from 0)
    ∙ sym (ap length were.raised ∙ clocks-long (map (clock_from (greatest_clock hierarchy old)) old) old)

pub set_clocks-requires-clause-low : goal.set_clocks-requires-clause-low
set_clocks-requires-clause-low c = subst (λ z. (clock : ℕ) → Has clock z → clock < 2 ^ 62) (sym c.deref.ensures.value) c.requires.1.low

pub returns-clause-back : goal.returns-clause-back
returns-clause-back c = λ net last old kept were others.
    stays_kept net last old _ kept others.run
    (c.set_clocks.ensures ∙ (λ k. with_clocks ((c.deref.ensures.value ∙ were.clocks) k) (were.raised k)) ∙ set-back (clock_from (greatest_clock hierarchy old.cores)) old.cores)
    others.messages others.journal
