use Rattle.std.proofs.Common.{◌∙◌, ℕ, List, ap, subst, arith}
use Rattle.base.specs.Sets.{Has}
use Rattle.match_routes.specs.Installed.{Installed}
use Rattle.match_routes.proofs.forwarding.Forwarding.knows.Goals as goal

pub returns : goal.returns
returns c e =
    let w = ap (λ (p : Installed). p.width) c.self.view_is in
    record {
      interface = subst (λ (xs : List ℕ). Has c.args.interface xs) (c.deref.ensures.value ∙ ap (λ (p : Installed). p.interfaces) c.self.view_is) (c.is_there.ensures e);
      number = omega (arith, w);
    }
