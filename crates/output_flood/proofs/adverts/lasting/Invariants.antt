use Rattle.std.proofs.Common.{◌≡◌, ◌++◌, drop, filter, not}
use Rattle.output_flood.specs.Held.{unadvertised}
use Rattle.output_flood.proofs.adverts.lasting.Given as goal

abbrev pub invariant-loop-advert : goal.invariant-loop-advert
invariant-loop-advert l = l.kept.items ++ filter (λ a. not (unadvertised a l.script)) (drop l.advert-index l.adverts) ≡ filter (λ a. not (unadvertised a l.script)) l.adverts
