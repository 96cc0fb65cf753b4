use Rattle.std.proofs.Common.{◌≡◌, ◌∷◌, ◌++◌, refl, sym, subst, ℕ, List}
use Rattle.std.proofs.lemmas.Result.{on_ok_weaker}
use Rattle.filter_constraints.specs.declared.op.Op.{Op}
use Rattle.filter_constraints.specs.declared.op.Op.TheVariants as ops
use Rattle.match_index.specs.Pairs.{Pair, Same}
use Rattle.match_index.specs.Lines.{told}
use Rattle.match_index.specs.Keys.{test_at}
use Rattle.match_index.proofs.Apart.{more-others, more-patterns}
use Rattle.match_index.proofs.Meets.{is-part}
use Rattle.match_texts.proofs.Grouping.{told-more}
use Rattle.match_texts.proofs.patterns.Patterns.put.Goals as goal

module _ (key : List ℕ) (id : ℕ) (a b d : List (List ℕ × ℕ)) (v : List Pair) (e : told (test_at ops.Prefix) a ++ (told (test_at ops.Suffix) b ++ told (test_at ops.Contains) d) ≡ v) (new : List (List ℕ × ℕ)) where
  ta : List Pair
  ta = told (test_at ops.Prefix) a

  tb : List Pair
  tb = told (test_at ops.Suffix) b

  td : List Pair
  td = told (test_at ops.Contains) d

  prefix-more : Same new ((key, id) ∷ a) → Same (told (test_at ops.Prefix) new ++ (told (test_at ops.Suffix) b ++ told (test_at ops.Contains) d)) ((test_at ops.Prefix key, id) ∷ v)
  prefix-more h = more-others (told (test_at ops.Prefix) a) (told (test_at ops.Suffix) b ++ told (test_at ops.Contains) d) v e (test_at ops.Prefix key, id) (told (test_at ops.Prefix) new) (told-more (test_at ops.Prefix) key id a new h)

  suffix-more : Same new ((key, id) ∷ b) → Same (told (test_at ops.Prefix) a ++ (told (test_at ops.Suffix) new ++ told (test_at ops.Contains) d)) ((test_at ops.Suffix key, id) ∷ v)
  suffix-more h =
      let x : Pair = (test_at ops.Suffix key, id) in
      let s = told-more (test_at ops.Suffix) key id b new h in
      let t = more-others (told (test_at ops.Suffix) b) (told (test_at ops.Contains) d) (told (test_at ops.Suffix) b ++ told (test_at ops.Contains) d) refl x (told (test_at ops.Suffix) new) s in
      more-patterns (told (test_at ops.Prefix) a) (told (test_at ops.Suffix) b ++ told (test_at ops.Contains) d) v e x (told (test_at ops.Suffix) new ++ told (test_at ops.Contains) d) t

  part-more : Same new ((key, id) ∷ d) → Same (told (test_at ops.Prefix) a ++ (told (test_at ops.Suffix) b ++ told (test_at ops.Contains) new)) ((test_at ops.Contains key, id) ∷ v)
  part-more h =
      let x : Pair = (test_at ops.Contains key, id) in
      let s = told-more (test_at ops.Contains) key id d new h in
      let t = more-patterns (told (test_at ops.Suffix) b) (told (test_at ops.Contains) d) (told (test_at ops.Suffix) b ++ told (test_at ops.Contains) d) refl x (told (test_at ops.Contains) new) s in
      more-patterns (told (test_at ops.Prefix) a) (told (test_at ops.Suffix) b ++ told (test_at ops.Contains) d) v e x (told (test_at ops.Suffix) b ++ told (test_at ops.Contains) new) t

at-op : (op same : Op) (key : List ℕ) (id : ℕ) (v all : List Pair) → op ≡ same → Same all ((test_at same key, id) ∷ v) → Same all ((test_at op key, id) ∷ v)
at-op op same key id v all e h = subst (λ (o : Op). Same all ((test_at o key, id) ∷ v)) (sym e) h

pub returns-in-Prefix : goal.returns-in-Prefix
returns-in-Prefix c = on_ok_weaker c.put.result (λ h. at-op c.args.op ops.Prefix c.args.key.now c.args.id c.args.self.now _ c.in-Prefix.is (prefix-more c.args.key.now c.args.id c.self.inside.prefixes c.self.inside.suffixes c.self.inside.parts c.args.self.now c.self.view_is c.put.new.self h)) c.put.ensures

pub returns-in-Suffix : goal.returns-in-Suffix
returns-in-Suffix c = on_ok_weaker c.put-in-Suffix.result (λ h. at-op c.args.op ops.Suffix c.args.key.now c.args.id c.args.self.now _ c.in-Suffix.is (suffix-more c.args.key.now c.args.id c.self.inside.prefixes c.self.inside.suffixes c.self.inside.parts c.args.self.now c.self.view_is c.put-in-Suffix.new.self h)) c.put-in-Suffix.ensures

pub returns-in_default : goal.returns-in_default
returns-in_default c = on_ok_weaker c.put-in_default.result (λ h. at-op c.args.op ops.Contains c.args.key.now c.args.id c.args.self.now _ (is-part c.args.op c.requires c.in_default.not-Prefix c.in_default.not-Suffix) (part-more c.args.key.now c.args.id c.self.inside.prefixes c.self.inside.suffixes c.self.inside.parts c.args.self.now c.self.view_is c.put-in_default.new.self h)) c.put-in_default.ensures
