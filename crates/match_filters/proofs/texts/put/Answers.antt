use Rattle.std.proofs.Common.{◌∙◌, ap, sym, subst, ℕ, List, ◌∷◌}
use Rattle.std.specs.Prelude.{Vec}
use Rattle.std.specs.declared.alloc.Global.{Global}
use Rattle.std.specs.BTreeMap.{BTreeMap, insert_entry}
use Rattle.std.specs.Option.{option_copied_mut}
use Rattle.std.proofs.lemmas.Result.{on_ok_weaker}
use Rattle.match_index.specs.Pairs.{Same, Pair, test_of}
use Rattle.match_index.specs.Keys.{key_cmp}
use Rattle.match_filters.proofs.ShelfLaws.{shelf-more, shelf-new}
use Rattle.match_filters.proofs.texts.put.Goals as goal

pub returns-in-Some : goal.returns-in-Some
returns-in-Some c =
    let here = sym c.get_mut.ensures.value ∙ ap option_copied_mut c.in-Some.is in
    on_ok_weaker c.add.result (λ h. shelf-more c.bytes-name.result.now c.args.constraint.now c.args.id c.in-Some.shelf.now c.add.new.self c.args.shelves.now.entries (c.get_mut.follows.lender c.add.new.self).entries (c.bytes-name.ensures.bytes ∙ c.name.ensures) here (c.get_mut.follows.holds c.add.new.self).0 h) c.add.ensures

pub returns : goal.returns
returns c =
    let none = sym c.get_mut.ensures.value ∙ ap option_copied_mut c.in_default.is in
    let key = c.in_ok-key.key in
    let es = c.args.shelves.now.entries in
    let entries = c.in_ok-insert.ensures.entries ∙ ap {B = List (Vec ℕ Global × List Pair)} (λ (m : BTreeMap (Vec ℕ Global) (List Pair)). insert_entry key_cmp m.entries key c.add-2.new.self) c.get_mut.follows.holds-at-none in
    let one = subst (λ (old : List Pair). Same c.add-2.new.self ((test_of c.args.constraint.now, c.args.id) ∷ old)) c.new-shelf.ensures c.in_ok-add.ensures in
    shelf-new c.bytes-name.result.now c.args.constraint.now c.args.id key c.add-2.new.self es c.insert.new.self.entries (c.bytes-name.ensures.bytes ∙ c.name.ensures) c.in_ok-key.ensures.items none entries one
