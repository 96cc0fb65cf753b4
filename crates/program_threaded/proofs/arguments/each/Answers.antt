use Rattle.std.proofs.Common.{map, sym, ap, ◌∙◌}
use Rattle.std.specs.String.{string_bytes}
use Rattle.std.specs.Vec.Iter.{into_iter_items}
use Rattle.program_threaded.proofs.Taken.{taken-all}
use Rattle.program_threaded.proofs.arguments.each.Goals as goal

pub returns : goal.returns
returns c =
    c.loop-argument.invariant
    ∙ ap (map string_bytes)
    (sym (taken-all c.into_iter-argument-iterator.result c.loop-argument.yielded c.loop-argument.argument-iterator c.loop-argument.yielded_by c.in-None.ensures.steps.0)
    ∙ ap into_iter_items c.into_iter-argument-iterator.ensures.into_iter_gives)
