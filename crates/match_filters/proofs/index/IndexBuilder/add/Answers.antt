use Rattle.std.proofs.Common.{◌∙◌, ◌∷◌, ℕ, sym, subst}
use Rattle.match_index.specs.Pairs.{Same}
use Rattle.match_filters.specs.Kinds.{ByKind, IsAdded}
use Rattle.match_filters.proofs.KindLaws.{added-int, added-bool, added-time, added-str, added-text}
use Rattle.match_filters.proofs.index.IndexBuilder.add.Goals as goal

pub returns-in_ok-add-in-Int : goal.returns-in_ok-add-in-Int
returns-in_ok-add-in-Int c =
    let i = c.self.inside in
    let new : ByKind = record { ints = c.add.new.self; bools = i.bools; times = i.times; strs = i.strs; texts = i.texts } in
    subst (λ (old : ByKind). IsAdded c.args.constraint.now c.args.id old new) c.self.view_is (added-int c.args.constraint.now c.args.id (record { ints = i.ints; bools = i.bools; times = i.times; strs = i.strs; texts = i.texts }) c.add.new.self (sym c.kind.ensures ∙ c.in-Int.is) c.in_ok-add-in-Int.ensures)

pub returns-in_ok-add-in-Bool : goal.returns-in_ok-add-in-Bool
returns-in_ok-add-in-Bool c =
    let i = c.self.inside in
    let new : ByKind = record { ints = i.ints; bools = c.add-in-Bool.new.self; times = i.times; strs = i.strs; texts = i.texts } in
    subst (λ (old : ByKind). IsAdded c.args.constraint.now c.args.id old new) c.self.view_is (added-bool c.args.constraint.now c.args.id (record { ints = i.ints; bools = i.bools; times = i.times; strs = i.strs; texts = i.texts }) c.add-in-Bool.new.self (sym c.kind.ensures ∙ c.in-Bool.is) c.in_ok-add-in-Bool.ensures)

pub returns-in_ok-add-in-Time : goal.returns-in_ok-add-in-Time
returns-in_ok-add-in-Time c =
    let i = c.self.inside in
    let new : ByKind = record { ints = i.ints; bools = i.bools; times = c.add-in-Time.new.self; strs = i.strs; texts = i.texts } in
    subst (λ (old : ByKind). IsAdded c.args.constraint.now c.args.id old new) c.self.view_is (added-time c.args.constraint.now c.args.id (record { ints = i.ints; bools = i.bools; times = i.times; strs = i.strs; texts = i.texts }) c.add-in-Time.new.self (sym c.kind.ensures ∙ c.in-Time.is) c.in_ok-add-in-Time.ensures)

pub returns-in_ok-add-in-Str : goal.returns-in_ok-add-in-Str
returns-in_ok-add-in-Str c =
    let i = c.self.inside in
    let new : ByKind = record { ints = i.ints; bools = i.bools; times = i.times; strs = i.strs; texts = c.add-in-Str.new.self } in
    let same = subst (λ (k : ℕ). Same c.add-in-Str.new.self ((c.args.constraint.now, k) ∷ i.texts)) c.from.ensures c.in_ok-add-in-Str.ensures in
    subst (λ (old : ByKind). IsAdded c.args.constraint.now c.args.id old new) c.self.view_is (added-text c.args.constraint.now c.args.id (record { ints = i.ints; bools = i.bools; times = i.times; strs = i.strs; texts = i.texts }) c.add-in-Str.new.self (sym c.kind.ensures ∙ c.in-Str.is) (sym c.is_alone.ensures ∙ c.if-is_alone.true) same)

pub returns-in_ok-add-in-Str-2 : goal.returns-in_ok-add-in-Str-2
returns-in_ok-add-in-Str-2 c =
    let i = c.self.inside in
    let new : ByKind = record { ints = i.ints; bools = i.bools; times = i.times; strs = c.add-in-Str-2.new.self; texts = i.texts } in
    subst (λ (old : ByKind). IsAdded c.args.constraint.now c.args.id old new) c.self.view_is (added-str c.args.constraint.now c.args.id (record { ints = i.ints; bools = i.bools; times = i.times; strs = i.strs; texts = i.texts }) c.add-in-Str-2.new.self (sym c.kind.ensures ∙ c.in-Str.is) (sym c.is_alone.ensures ∙ c.if-is_alone.false) c.in_ok-add-in-Str-2.ensures)
