use Rattle.std.proofs.Common.{◌≡◌, length, true, false, sym, ◌∙◌}
use Rattle.std.proofs.lemmas.Bool.{ltb-true, lt-ltb}
use Rattle.server_session.proofs.Keeping.{next-is, step-there, next-outside, inside-left}
use Rattle.server_session.proofs.session.Session.next_command.Goals as goal
use Rattle.base.proofs.Lists.{get-get_or}

pub returns-in-Some-clause-some : goal.returns-in-Some-clause-some
returns-in-Some-clause-some c =
    let l = c.in-Some.ensures.lookup in
    let at = get-get_or c.self.inside.steps.now c.self.inside.taken c.in-Some.field-0.now (ltb-true c.self.inside.taken (length c.self.inside.steps.now) (sym l.0)) l.1 in
    next-outside _ _ _ c.self.view_is c.in-Some.field-0.now.1 (next-is _ _ _ _ _ _ _ c.self.invariant.0 c.in-Some.field-0.now at)

pub returns-in-None-clause-none : goal.returns-in-None-clause-none
returns-in-None-clause-none c h =
    let l = inside-left _ _ _ c.self.view_is h in
    never (c.in-None.ensures.lookup.0 ∙ lt-ltb c.self.inside.taken (length c.self.inside.steps.now) (step-there _ _ _ _ _ _ _ c.self.invariant.0 l))
  where
    never : false ≡ true → ⊥
    never e = cc
