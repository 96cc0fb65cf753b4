use Rattle.std.proofs.Common.{arith, sym, ◌∙◌}
use Rattle.output_patterns.proofs.Feeding.{shown}
use Rattle.output_patterns.proofs.detector.Detector.places.Goals as goal

pub returns : goal.returns
returns c all places h m e = c.deref.ensures.value ∙ sym c.self.invariant.found ∙ shown c.self.inside.steps.items c.self.inside.heard.value all places (omega (arith, c.self.invariant.some)) (rw (← c.self.view_is) at h) m (rw (← c.self.view_is) at e)
