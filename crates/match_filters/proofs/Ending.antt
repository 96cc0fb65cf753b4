-- Words that have the filters whose count is the number of their parts have those that the notice matches.
use Rattle.std.proofs.Common.{◌≡◌, ◌↔◌, ◌==◌, ◌&&◌, ◌∙◌, ℕ, ◌+◌, ◌*◌, ◌/◌, ◌%◌, ◌<◌, ◌≤◌, inl, inr, Bool, true, false, not, cond, nat_lt, nat_eq, List, [], length, get_or, refl, sym, ap, ap₂, arith, eqb-true, eq-eqb}
use Rattle.std.specs.Prelude.{Vec}
use Rattle.std.specs.declared.alloc.Global.{Global}
use Rattle.std.specs.Int.{bit_at}
use Rattle.std.proofs.lemmas.Bool.{and_parts, cases_lt}
use Rattle.std.proofs.lemmas.Bool.Decides.{nat_tests}
use Rattle.std.proofs.lemmas.List.{get_or_past}
use Rattle.std.proofs.lemmas.Nat.Bits.{bit_at-zero}
use Rattle.filter_values.specs.declared.value.Kind.TheVariants as kinds
use Rattle.filter_constraints.specs.Constraint.{ConstraintParts}
use Rattle.filter_types.specs.Notice.{Attribute, AreRising}
use Rattle.filter_types.specs.Cover.{matches}
use Rattle.base.specs.Sets.{Has}
use Rattle.base_bits.specs.Words.{bit, members_of}
use Rattle.base_bits.specs.Rows.{IsKept}
use Rattle.base_bits.proofs.Passing.{passing-is}
use Rattle.match_index.specs.Pairs.{tally, Same}
use Rattle.match_index.proofs.Tallies.{tally-agree, tally-none}
use Rattle.match_cells.specs.declared.counts.Counts.{Counts}
use Rattle.match_cells.specs.Counts.{goal_at, rows_with}
use Rattle.match_filters.specs.Goals.{IsFilled}
use Rattle.match_filters.specs.Hits.{hits_of}
use Rattle.match_filters.specs.Index.{Use, is_satisfied, ids_satisfied}
use Rattle.match_filters.specs.Kinds.{ByKind, all_uses}
use Rattle.match_filters.specs.Matching.{matched}
use Rattle.match_filters.specs.Parts.{is_alone, is_on, is_missed, parts_of, is_part_met}
use Rattle.match_filters.specs.Rows.{is_met}
use Rattle.match_filters.specs.Uses.{AreJoined}
use Rattle.match_filters.proofs.Filling.{of_filter, of-filter, tally-within}
use Rattle.match_filters.proofs.KindLaws.{tally-kinds, none-alone}
use Rattle.match_filters.proofs.Members.{matched-iff, rising-matched}
use Rattle.match_filters.proofs.PartLaws.{parts-tell, parts-few}
use Rattle.match_filters.proofs.RowLaws.{tally-agree-but}
use Rattle.match_filters.proofs.Satisfied.{tally-satisfied}

shows-matched : (n : List Attribute) (filters : List (List ConstraintParts)) (words : List ℕ) → ((k : ℕ) → bit words k ≡ 1 → k < length filters) → ((k : ℕ) → k < length filters → (bit words k ≡ 1) ↔ (matches n (get_or filters k []) ≡ true))
    → members_of words (length filters) ≡ matched n filters
shows-matched n filters words within h = passing-is (λ k. bit words k == 1) (length filters) (matched n filters) (rising-matched n filters) to from
  where
    to : (k : ℕ) → (bit words k == 1) ≡ true → Has k (matched n filters)
    to k e = let b = eqb-true (bit words k) 1 e in (matched-iff n filters k).1 (within k b, (h k (within k b)).0 b)

    from : (k : ℕ) → Has k (matched n filters) → (k < length filters) × ((bit words k == 1) ≡ true)
    from k m = let p = (matched-iff n filters k).0 m in (p.0, eq-eqb (bit words k) 1 ((h k p.0).1 p.1))

-- constraints that are parts by themselves stand among the patterns
alone-none : (p : ConstraintParts → Bool) (k : ℕ) (uses : List Use) → AreJoined uses → tally (of_filter (λ c. is_alone c && p c) k) uses ≡ 0
alone-none p k uses joined = omega (arith, joined, tally-within (of_filter (λ c. is_alone c && p c) k) (λ u. is_alone u.0) (λ u e. (and_parts (is_alone u.0) (p u.0) (and_parts (is_alone u.0 && p u.0) (u.1 == k) e).0).0) uses)

module _ (n : List Attribute) (rising : AreRising n) (filters : List (List ConstraintParts)) (few : length filters ≤ 4096) (index : ByKind) (goals : List Counts) (is : IsFilled index goals filters) (found : List ℕ) (hits : Same found (ids_satisfied n index.texts)) where
  -- how many of its patterns are satisfied
  hits-tell : (k : ℕ) → hits_of k found ≡ tally (λ c. is_alone c && is_satisfied n c) (get_or filters k [])
  hits-tell k =
      let p = λ (c : ConstraintParts). is_alone c && is_satisfied n c in
      let a = hits (λ x. x == k) in
      let b = tally-satisfied (λ x. x == k) n index.texts in
      let c = tally-agree-but (λ u. not (is_alone u.0)) (of_filter (is_satisfied n) k) (of_filter p k) index.texts is.sorted.alone (λ u h. ap (λ (b : Bool). (b && is_satisfied n u.0) && u.1 == k) (sym (positive (is_alone u.0) h))) in
      omega (arith, a, b, c, tally-kinds (of_filter p k) index, alone-none (is_satisfied n) k index.ints (none-alone kinds.Int refl index.ints is.sorted.ints), alone-none (is_satisfied n) k index.bools (none-alone kinds.Bool refl index.bools is.sorted.bools), alone-none (is_satisfied n) k index.times (none-alone kinds.Time refl index.times is.sorted.times), alone-none (is_satisfied n) k index.strs is.sorted.joined, of-filter p (all_uses index) filters is.indexed k)
    where
      positive : (b : Bool) → not b ≡ false → b ≡ true
      positive true e = refl
      positive false e = cc

  -- no number is found that no filter has
  pub hits-known : (span : ℕ) → span ≡ length goals → (k : ℕ) → 64 * span ≤ k → hits_of k found ≡ 0
  hits-known span e k l = hits-tell k ∙ ap (tally (λ c. is_alone c && is_satisfied n c)) (get_or_past filters k [] (omega (arith, l, e, is.reached.long)))

  parts-met : (k : ℕ) → tally (λ a. is_met a (all_uses index) k) n ≡ tally (is_part_met (get_or filters k [])) n
  parts-met k = tally-agree (λ a. is_met a (all_uses index) k) (is_part_met (get_or filters k [])) n (λ a. ap₂ (λ (x y : ℕ). nat_lt 0 x && nat_eq y 0) (of-filter (is_on a) (all_uses index) filters is.indexed k) (of-filter (is_missed a) (all_uses index) filters is.indexed k))

  module _ (counts : List Counts) (rows : List (Vec ℕ Global)) (words : List ℕ) (long : length words ≡ length goals) (counted : (k : ℕ) → goal_at counts k ≡ hits_of k found % 32)
      (gathered : (k : ℕ) → k < 64 * length goals → rows_with rows k ≡ tally (λ a. is_met a (all_uses index) k) n) (bits : (k : ℕ) → k < 64 * length words → (bit words k ≡ 1) ↔ ((goal_at counts k + rows_with rows k) % 32 ≡ goal_at goals k)) where
    got : (k : ℕ) → k < 64 * length goals → (goal_at counts k + rows_with rows k) % 32 ≡ (tally (is_part_met (get_or filters k [])) n + tally (λ c. is_alone c && is_satisfied n c) (get_or filters k [])) % 32
    got k l = omega (arith, counted k, gathered k l, hits-tell k, parts-met k)

    within-span : (k : ℕ) → bit words k ≡ 1 → k < 64 * length goals
    unfolding bit
    within-span k b = elim (cases_lt (k / 64) (length words)) [
      | inl l ↦ omega (arith, l, long)
      | inr l ↦ absurd (omega (arith, b, ap (λ (w : ℕ). bit_at w (k % 64)) (get_or_past words (k / 64) 0 l), bit_at-zero (k % 64)))
    ]

    pub within : (k : ℕ) → bit words k ≡ 1 → k < length filters
    within k b = elim (cases_lt k (length filters)) [
      | inl l ↦ l
      | inr l ↦
          let m = within-span k b in
          let none : get_or filters k [] ≡ [] = get_or_past filters k [] l in
          let t : nat_lt k (length filters) ≡ false = grind (arith, nat_tests) in
          let goal : goal_at goals k ≡ 31 = is.reached.each k m ∙ ap {B = ℕ} (λ (x : Bool). cond x (parts_of (get_or filters k [])) 31) t in
          let nothing : tally (is_part_met (get_or filters k [])) n + tally (λ c. is_alone c && is_satisfied n c) (get_or filters k []) ≡ 0 = ap (λ (f : List ConstraintParts). tally (is_part_met f) n + tally (λ c. is_alone c && is_satisfied n c) f) none ∙ omega (arith, tally-none (is_part_met []) n (λ a. refl)) in
          absurd (omega (arith, (bits k (omega (arith, m, long))).0 b, got k m, goal, nothing))
    ]

    shown : (k : ℕ) → k < length filters → (bit words k ≡ 1) ↔ (matches n (get_or filters k []) ≡ true)
    unfolding matches
    shown k l =
        let f = get_or filters k [] in
        let m : k < 64 * length goals = omega (arith, l, is.reached.long) in
        let t : nat_lt k (length filters) ≡ true = grind (arith, nat_tests) in
        let goal : goal_at goals k ≡ parts_of f = is.reached.each k m ∙ ap {B = ℕ} (λ (x : Bool). cond x (parts_of f) 31) t in
        let tells = parts-tell n rising f in
        let b = bits k (omega (arith, m, long)) in
        (λ x. tells.to (omega (arith, b.0 x, got k m, goal, tells.few, parts-few f, is.few k)), λ x. b.1 (omega (arith, got k m, goal, tells.from x, parts-few f, is.few k)))

    pub kept : IsKept words (length filters)
    kept = record { long = long ∙ is.reached.long; fits = omega (arith, few); within = within }

    pub members : members_of words (length filters) ≡ matched n filters
    members = shows-matched n filters words within shown
