-- The order of ids is the one that sorting goes by.
use Rattle.std.proofs.Common.{◌≡◌, Bool, true, false, cond, ◌&&◌, ◌||◌, ◌==◌, nat_lt, List, [], ◌∷◌, nat_cmp, is_lt, refl, sym, ap, ◌∙◌, arith}
use Rattle.std.specs.declared.cmp.Ordering.TheVariants.{Less, Equal, Greater}
use Rattle.std.specs.Ordering.{ordering_then}
use Rattle.std.proofs.lemmas.Bool.Decides.{nat_tests}
use Rattle.filter_text.specs.declared.id.Id.{Id}
use Rattle.filter_text.specs.Deliveries.{Delivery}
use Rattle.output_flood.specs.Flooding.{id_before}
use Rattle.output_report.specs.Deliveries.{put_by_id, by_id}
use Rattle.output_report.proofs.Sorting.{IsWeak, put, inserted}

-- the order that ids are sorted by
abbrev pub id_lt : Id → Id → Bool
id_lt a b = is_lt (ordering_then (nat_cmp a.publisher b.publisher) (nat_cmp a.ordinal b.ordinal))

one_test : (a b c d : Bool) → is_lt (ordering_then (cond a Less (cond b Equal Greater)) (cond c Less (cond d Equal Greater))) ≡ a || (b && c)
one_test true b c d = refl
one_test false true true d = refl
one_test false true false true = refl
one_test false true false false = refl
one_test false false c d = refl

pub id_same : (a b : Id) → id_lt a b ≡ id_before a b
id_same a b = one_test (nat_lt a.publisher b.publisher) (a.publisher == b.publisher) (nat_lt a.ordinal b.ordinal) (a.ordinal == b.ordinal)

pub before_self : (a : Id) → id_before a a ≡ false
before_self a = grind (arith, nat_tests)

pub before_one_way : (a b : Id) → id_before a b ≡ true → id_before b a ≡ false
before_one_way a b h = grind (arith, nat_tests)

pub before_chain : (a b c : Id) → id_before b a ≡ false → id_before c b ≡ false → id_before c a ≡ false
before_chain a b c p q = grind (arith, nat_tests)

pub id_weak : {X : Type 0} (id : X → Id) → IsWeak (λ x y. id_lt (id x) (id y))
id_weak id = record {
  irreflexive = λ x. id_same (id x) (id x) ∙ before_self (id x);
  one_way = λ x y h. id_same (id y) (id x) ∙ before_one_way (id x) (id y) (sym (id_same (id x) (id y)) ∙ h);
  chain = λ x y z p q.
      id_same (id z) (id x)
      ∙ before_chain (id x) (id y) (id z) (sym (id_same (id y) (id x)) ∙ p) (sym (id_same (id z) (id y)) ∙ q);
}

abbrev lt : Delivery → Delivery → Bool
lt d e = id_lt d.id e.id

put_same : (d : Delivery) (ds : List Delivery) → put lt d ds ≡ put_by_id d ds
put_same d [] = refl
put_same d (e ∷ rest) =
    ap (λ b. cond b (e ∷ put lt d rest) (d ∷ e ∷ rest)) (id_same e.id d.id)
    ∙ ap (λ l. cond (id_before e.id d.id) (e ∷ l) (d ∷ e ∷ rest)) (put_same d rest)

pub by_id_same : (ds : List Delivery) → inserted (λ d e. id_lt d.id e.id) ds ≡ by_id ds
by_id_same [] = refl
by_id_same (d ∷ ds) = ap (put lt d) (by_id_same ds) ∙ put_same d (by_id ds)
