use Rattle.std.proofs.Common.{◌∙◌, ◌*◌, ap, List}
use Rattle.std.specs.BTreeMap.{insert_entry}
use Rattle.match_index.specs.Pairs.{Pair}
use Rattle.match_index.specs.Keys.{key_cmp}
use Rattle.match_filters.proofs.Closing.{closed-more, shelf-below, shelf-small}
use Rattle.match_filters.proofs.parts.close.Goals as goal

pub of-requires-clause-below : goal.of-requires-clause-below
of-requires-clause-below c = shelf-below (64 * c.args.span) c.args.shelves.entries c.loop-name.parts.entries c.loop-name.shelves.entries c.pop_first.new.self.entries (c.in-Some.name, c.in-Some.operands) c.loop-name.invariant c.in-Some.ensures.removal c.requires.known

pub of-requires-clause-few : goal.of-requires-clause-few
of-requires-clause-few c = shelf-small 1073741824 c.args.shelves.entries c.loop-name.parts.entries c.loop-name.shelves.entries c.pop_first.new.self.entries (c.in-Some.name, c.in-Some.operands) c.loop-name.invariant c.in-Some.ensures.removal c.requires.few

pub loop-name-preserved-in_ok-insert : goal.loop-name-preserved-in_ok-insert
loop-name-preserved-in_ok-insert c =
    closed-more c.args.shelves.entries c.loop-name.parts.entries c.loop-name.shelves.entries c.insert.new.self.entries c.pop_first.new.self.entries (c.in-Some.name, c.in-Some.operands) c.loop-name.invariant c.in-Some.ensures.removal
    (c.in_ok-insert.ensures.entries ∙ ap (λ (x : List Pair). insert_entry key_cmp c.loop-name.parts.entries c.in-Some.name x) c.in_ok-part.ensures)

pub loop-name-preserved : goal.loop-name-preserved
loop-name-preserved c =
    closed-more c.args.shelves.entries c.loop-name.parts.entries c.loop-name.shelves.entries c.insert.new.self.entries c.pop_first.new.self.entries (c.in-Some.name, c.in-Some.operands) c.loop-name.invariant c.in-Some.ensures.removal
    (c.in_ok-insert.ensures.entries ∙ ap (λ (x : List Pair). insert_entry key_cmp c.loop-name.parts.entries c.in-Some.name x) c.in_ok-part.ensures)
