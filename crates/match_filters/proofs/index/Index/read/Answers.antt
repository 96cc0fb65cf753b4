use Rattle.std.proofs.Common.{ap, subst, sym, refl}
use Rattle.std.proofs.lemmas.Result.{on_ok_weaker}
use Rattle.filter_values.specs.Value.{kind_of}
use Rattle.filter_types.specs.Notice.{Attribute}
use Rattle.filter_values.specs.declared.value.Kind.{Kind}
use Rattle.filter_values.specs.declared.value.Kind.TheVariants as kinds
use Rattle.match_filters.specs.Uses.{AreAll, AreJoined}
use Rattle.match_filters.specs.Kinds.{ByKind, all_uses}
use Rattle.match_filters.specs.Rows.{HaveMore}
use Rattle.match_filters.proofs.KindLaws.{read-int, read-bool, read-time, read-str, none-alone}
use Rattle.match_filters.proofs.index.Index.read.Goals as goal

pub read-requires : goal.read-requires
read-requires c = subst (λ (k : Kind). AreAll k c.self.inside.ints × AreJoined c.self.inside.ints) (sym (ap kind_of c.in-Int.is)) (c.self.invariant.ints, none-alone kinds.Int refl c.self.inside.ints c.self.invariant.ints)

pub read-requires-in-Bool : goal.read-requires-in-Bool
read-requires-in-Bool c = subst (λ (k : Kind). AreAll k c.self.inside.bools × AreJoined c.self.inside.bools) (sym (ap kind_of c.in-Bool.is)) (c.self.invariant.bools, none-alone kinds.Bool refl c.self.inside.bools c.self.invariant.bools)

pub read-requires-in-Time : goal.read-requires-in-Time
read-requires-in-Time c = subst (λ (k : Kind). AreAll k c.self.inside.times × AreJoined c.self.inside.times) (sym (ap kind_of c.in-Time.is)) (c.self.invariant.times, none-alone kinds.Time refl c.self.inside.times c.self.invariant.times)

pub returns-in-Int : goal.returns-in-Int
returns-in-Int c =
    let a : Attribute = (c.args.name.now, c.args.value.now) in
    on_ok_weaker c.read.result (λ h. subst (λ (x : ByKind). HaveMore c.args.span a (all_uses x) c.args.rows.now c.read.new.rows) c.self.view_is (read-int _ c.self.invariant c.args.span a c.args.rows.now c.read.new.rows (ap kind_of c.in-Int.is) h)) c.read.ensures

pub returns-in-Bool : goal.returns-in-Bool
returns-in-Bool c =
    let a : Attribute = (c.args.name.now, c.args.value.now) in
    on_ok_weaker c.read-in-Bool.result (λ h. subst (λ (x : ByKind). HaveMore c.args.span a (all_uses x) c.args.rows.now c.read-in-Bool.new.rows) c.self.view_is (read-bool _ c.self.invariant c.args.span a c.args.rows.now c.read-in-Bool.new.rows (ap kind_of c.in-Bool.is) h)) c.read-in-Bool.ensures

pub returns-in-Time : goal.returns-in-Time
returns-in-Time c =
    let a : Attribute = (c.args.name.now, c.args.value.now) in
    on_ok_weaker c.read-in-Time.result (λ h. subst (λ (x : ByKind). HaveMore c.args.span a (all_uses x) c.args.rows.now c.read-in-Time.new.rows) c.self.view_is (read-time _ c.self.invariant c.args.span a c.args.rows.now c.read-in-Time.new.rows (ap kind_of c.in-Time.is) h)) c.read-in-Time.ensures

pub returns-in-Str : goal.returns-in-Str
returns-in-Str c =
    let a : Attribute = (c.args.name.now, c.args.value.now) in
    on_ok_weaker c.read-in-Str.result (λ h. subst (λ (x : ByKind). HaveMore c.args.span a (all_uses x) c.args.rows.now c.read-in-Str.new.rows) c.self.view_is (read-str _ c.self.invariant c.args.span a c.args.rows.now c.read-in-Str.new.rows (ap kind_of c.in-Str.is) h)) c.read-in-Str.ensures
