-- A verdict is what flooding tells: a row of what is owed where the verdict is that, and one of what is allowed alone where it is so.
use Rattle.std.proofs.Common.{◌≡◌, ◌↔◌, ℕ, Bool, true, false, List, refl, sym, ap, subst, ◌∙◌}
use Rattle.base.specs.Sets.{Has}
use Rattle.filter_types.specs.Notice.{Attribute}
use Rattle.filter_text.specs.declared.id.Id.{Id}
use Rattle.law_routing.specs.Owed.{IsOwed, IsAllowed}
use Rattle.net_model.specs.Real.{real}
use Rattle.net_model.specs.Parts.{NetParts}
use Rattle.output_flood.specs.declared.owed.OwedRow.{OwedRow}
use Rattle.output_flood.specs.Flooding.{net_in, row_of, HasRow, AreRows}
use Rattle.output_explain.specs.declared.answer.Explanation.{Explanation}
use Rattle.output_explain.specs.declared.verdict.Verdict.{Verdict}
use Rattle.output_explain.specs.declared.verdict.Verdict.TheVariants as verdicts
use Rattle.output_explain.specs.Asked.{IsPublish}
use Rattle.output_explain.specs.Explained.{IsExplanation}
use Rattle.output_explain.specs.Verdicts.{IsAccepted, is_given, is_may}
use Rattle.output_explain.proofs.Promised.{same_publish}

-- what a row tells of a publish
pub row_tells : (net : NetParts) (client : ℕ) (id : Id) (index phase : ℕ) (notice : List Attribute) → IsPublish net id index phase notice
    → (list : List OwedRow) → AreRows net client list → (must : Bool) → Has (row_of id.publisher id.ordinal must) list
    → (IsAccepted net id phase notice × IsAllowed real (net_in net phase) phase notice client)
    × ((must ≡ true) ↔ IsOwed real (net_in net phase) id.publisher phase notice client)
row_tells net client id index phase notice publish list rows must h =
    let row = rows.each (row_of id.publisher id.ordinal must) h in
    let same = same_publish net id index phase row.phase notice row.notice publish row.published in (
      (
        subst (λ k. IsAccepted net id k notice) same.0 (subst (λ n. IsAccepted net id row.phase n) same.1 row.published),
        subst (λ k. IsAllowed real (net_in net k) k notice client) same.0 (subst (λ n. IsAllowed real (net_in net row.phase) row.phase n client) same.1 row.allowed),
      ),
      subst (λ k. (must ≡ true) ↔ IsOwed real (net_in net k) id.publisher k notice client) same.0
          (subst (λ n. (must ≡ true) ↔ IsOwed real (net_in net row.phase) id.publisher row.phase n client) same.1 row.must),
    )

-- verdicts by their tests

pub may_given : (v : Verdict) → is_may v ≡ true → is_given v ≡ true
may_given verdicts.Owed q = refl
may_given (verdicts.May missing) q = refl
may_given (verdicts.Never reason) q = absurd cc

pub may_not_owed : (v : Verdict) → is_may v ≡ true → v ≡ verdicts.Owed → ⊥
may_not_owed v q o = clash (sym (ap is_may o) ∙ q)
  where
    clash : false ≡ true → ⊥
    clash q = absurd cc

pub given_may : (v : Verdict) → is_given v ≡ true → (v ≡ verdicts.Owed → ⊥) → is_may v ≡ true
given_may verdicts.Owed q n = absurd (n refl)
given_may (verdicts.May missing) q n = refl
given_may (verdicts.Never reason) q n = absurd cc

module _ (net : NetParts) (e : Explanation) (x : IsExplanation net e) (list : List OwedRow) (rows : AreRows net e.client list) where
  -- what a row of the publication tells
  told : (must : Bool) → Has (row_of e.id.publisher e.id.ordinal must) list
      → (IsAccepted net e.id e.phase e.notice × IsAllowed real (net_in net e.phase) e.phase e.notice e.client)
      × ((must ≡ true) ↔ IsOwed real (net_in net e.phase) e.id.publisher e.phase e.notice e.client)
  told must h = row_tells net e.client e.id x.index e.phase e.notice x.publish list rows must h

  -- the row of what is given
  given : is_given e.verdict ≡ true → HasRow e.id.publisher e.id.ordinal list
  given q = let both = x.allowed.0 q in rows.whole e.id.publisher e.id.ordinal e.phase e.notice both.0 both.1

  owed_given : (v : Verdict) → v ≡ verdicts.Owed → is_given v ≡ true
  owed_given v q = ap is_given q

  pub owed_to : e.verdict ≡ verdicts.Owed → Has (row_of e.id.publisher e.id.ordinal true) list
  owed_to q =
      let row = given (owed_given e.verdict q) in
      subst (λ must. Has (row_of e.id.publisher e.id.ordinal must) list) ((told row.0 row.1).1.1 (x.owed.0 q).1) row.1

  pub owed_from : Has (row_of e.id.publisher e.id.ordinal true) list → e.verdict ≡ verdicts.Owed
  owed_from h = let t = told true h in x.owed.1 (t.0.0, t.1.0 refl)

  pub may_to : is_may e.verdict ≡ true → Has (row_of e.id.publisher e.id.ordinal false) list
  may_to q = let row = given (may_given e.verdict q) in go row.0 row.1
    where
      go : (must : Bool) → Has (row_of e.id.publisher e.id.ordinal must) list → Has (row_of e.id.publisher e.id.ordinal false) list
      go true h = absurd (may_not_owed e.verdict q (owed_from h))
      go false h = h

  pub may_from : Has (row_of e.id.publisher e.id.ordinal false) list → is_may e.verdict ≡ true
  may_from h = given_may e.verdict (x.allowed.1 (told false h).0) (λ o. clash ((told false h).1.1 (x.owed.0 o).1))
    where
      clash : false ≡ true → ⊥
      clash q = absurd cc
