use Rattle.std.proofs.Common.{◌-◌, ◌++◌, ◌∷◌, [], ap, ◌∙◌, set, arith}
use Rattle.thread_cell.specs.Lanes.{with_link}
use Rattle.thread_cell.proofs.Rows.{set-with}
use Rattle.thread_cell.proofs.lanes.join.Goals as goal
use Rattle.std.proofs.lemmas.List.{length-set}

pub returns : goal.returns
returns c = record {
  joined = record {
    mine = c.in_ok-mine.mine;
    theirs = c.in_ok-mine.theirs;
    between = c.in_ok-mine.ensures;
    rows =
        (let n = length-set c.args.rows.now.items (c.args.one - 1) c.push.new.self in
        set-with (λ r. r.items) (set c.args.rows.now.items (c.args.one - 1) c.push.new.self) (c.args.other - 1) c.index_mut-2.result.now c.push-2.new.self c.in_ok-mine.theirs (omega (arith, n, c.requires.other.0, c.requires.other.1))
        (c.in_ok-push-2.ensures.items ∙ ap (λ r. r.items ++ c.in_ok-mine.theirs ∷ []) c.index_mut-2.ensures.value))
        ∙ ap (λ l. with_link (c.args.other - 1) c.in_ok-mine.theirs l)
        (set-with (λ r. r.items) c.args.rows.now.items (c.args.one - 1) c.index_mut.result.now c.push.new.self c.in_ok-mine.mine (omega (arith, c.requires.one.0, c.requires.one.1))
        (c.in_ok-push.ensures.items ∙ ap (λ r. r.items ++ c.in_ok-mine.mine ∷ []) c.index_mut.ensures.value));
  };
}
