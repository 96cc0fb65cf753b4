use Rattle.std.proofs.Common.{◌≡◌, drop}
use Rattle.law_routing.specs.Clients.{some_pass}
use Rattle.net_model.specs.Real.{real}
use Rattle.output_flood.proofs.publication.is_allowed.Given as goal

abbrev pub invariant-loop-advert : goal.invariant-loop-advert
invariant-loop-advert l = some_pass (λ a. real.allows a l.notice) (drop l.advert-index l.adverts) ≡ some_pass (λ a. real.allows a l.notice) l.adverts
