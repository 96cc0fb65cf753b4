-- Proves that cells between two phases enter the next one together.
use Rattle.std.proofs.Common.{◌≡◌, ◌⊎◌, inl, inr, ℕ, zero, suc, ◌<◌, cond, List, [], ◌∷◌, ◌++◌, length, map, take, drop, Option, Some, None, Result, Ok, Err, slice_get, refl, sym, ap, ap₂, subst, ◌∙◌, arith, eq-eqb}
use Rattle.std.specs.Prelude.{OnOk, IfNone}
use Rattle.std.proofs.lemmas.List.{take-append-le, take_all}
use Rattle.law_phases.specs.Trees.{at_phase}
use Rattle.law_phases.specs.Moments.{begun}
use Rattle.law_phases.specs.Cells.{entered}
use Rattle.net_model.specs.Real.{real}
use Rattle.net_model.specs.Parts.{NetParts}
use Rattle.net_model.specs.Nets.{phased_net}
use Rattle.thread_versions.specs.Ends.{IsSameViewer}
use Rattle.thread_cell.specs.Cell.{CellParts, RepresentsCell}
use Rattle.thread_cell.specs.Entered.{AreEntered, AreSameCells, state_of}
use Rattle.thread_cell.specs.Together.{cell_roots, keepings}
use Rattle.thread_outcome.specs.Outcome.{AreInHand, AreAtStart, StandBetween}
use Rattle.thread_workers.specs.declared.server_workers.Viewers.{Viewers}
use Rattle.thread_workers.specs.ServerWorkers.{AreViewersOf, Pairwise}
use Rattle.program_threaded.specs.Teams.{HaveStarted}

-- nothing was done in the phase that the cells are in
started-here : (net : NetParts) (last : ℕ) (cells : List CellParts) → AreInHand net last cells → StandBetween net last last cells → HaveStarted net last last cells cells
started-here net last cells hand stood = record {
  stood = stood;
  enters = record {
    begun = stood.ends;
    stand = record {
      stand = λ k cell e.
          let s = starts k cell e in
          subst (λ c. RepresentsCell net last c cell.root.links.value.items (stood.ends (suc k))) (sym s.core)
          (subst (λ l. RepresentsCell net last cell.held.core l.items (stood.ends (suc k))) (sym s.links) (stood.stand.stand k cell e));
      others = stood.stand.others;
    };
    enters = ap (λ b. at_phase real (phased_net net) last (cond b (state_of net last stood.ends) (begun real (phased_net net) last last (state_of net last stood.ends)))) (eq-eqb last last refl);
  };
  journals = refl;
  starts = starts;
  together = hand.together;
  viewers = refl;
  keeps = refl;
}
  where
    starts : AreAtStart cells
    starts = at stood.phase
      where
        at : (last < last) ⊎ ((last ≡ last) × AreAtStart cells) → AreAtStart cells
        at (inl lt) = absurd (omega (arith, lt))
        at (inr p) = p.1

pub at-once : (net : NetParts) (last phase : ℕ) (cells : List CellParts) → last ≡ phase → AreInHand net last cells → StandBetween net last phase cells → HaveStarted net last phase cells cells
at-once net last phase cells e hand stood =
    subst (λ p. HaveStarted net last p cells cells) e (started-here net last cells hand (subst (λ p. StandBetween net last p cells) (sym e) stood))

-- lists of one length whose members agree
map-same : {X Y : Type 0} (f : X → Y) (old new : List X) → length new ≡ length old
    → ((k : ℕ) (a b : X) → slice_get old k ≡ Some a → slice_get new k ≡ Some b → f b ≡ f a) → map f new ≡ map f old
map-same f [] [] e same = refl
map-same f [] (y ∷ new) e same = absurd (omega (arith, e))
map-same f (x ∷ old) [] e same = absurd (omega (arith, e))
map-same f (x ∷ old) (y ∷ new) e same =
    ap (λ z. z ∷ map f new) (same 0 x y refl refl) ∙ ap (λ l. f x ∷ l) (map-same f old new (omega (arith, e)) (λ k a b p q. same (suc k) a b p q))

keeps-same : (old new : List CellParts) → length new ≡ length old
    → ((k : ℕ) (a b : CellParts) → slice_get old k ≡ Some a → slice_get new k ≡ Some b → b.root.keeps ≡ a.root.keeps) → keepings new ≡ keepings old
keeps-same [] [] e same = refl
keeps-same [] (y ∷ new) e same = absurd (omega (arith, e))
keeps-same (x ∷ old) [] e same = absurd (omega (arith, e))
keeps-same (x ∷ old) (y ∷ new) e same = ap₂ (λ k ks. k ∷ ks) (same 0 x y refl refl) (keeps-same old new (omega (arith, e)) (λ k a b p q. same (suc k) a b p q))

there : {X : Type 0} (old new : List X) → length new ≡ length old → (k : ℕ) (b : X) → slice_get new k ≡ Some b → (a : X) × (slice_get old k ≡ Some a)
there [] [] e k b p = absurd cc
there [] (y ∷ new) e k b p = absurd (omega (arith, e))
there (x ∷ old) [] e k b p = absurd (omega (arith, e))
there (x ∷ old) (y ∷ new) e zero b p = (x, refl)
there (x ∷ old) (y ∷ new) e (suc k) b p = there old new (omega (arith, e)) k b p

pub on-entering : (net : NetParts) (last phase : ℕ) (old new : List CellParts) → StandBetween net last phase old → AreSameCells old new → AreEntered net last phase old new
    → HaveStarted net last phase old new
on-entering net last phase old new stood same entered = record {
  stood = stood;
  enters = entered.stand stood.ends stood.stand;
  journals = map-same (λ (c : CellParts). c.journal) old new same.long (λ k a b p q. (same.each k a b p q).journal);
  starts = λ k cell e.
      let a = there old new same.long k cell e in
      let h = entered.each k a.0 cell a.1 e in
      record { core = h.core; links = h.links; before = h.before };
  together = entered.together;
  viewers = map-same (λ (c : CellParts). c.root.viewer.value) old new same.long (λ k a b p q. ap (λ v. v.value) (same.each k a b p q).viewer);
  keeps = keeps-same old new same.long (λ k a b p q. (same.each k a b p q).keeps);
}

heads : {X : Type 0} {x y : X} {xs ys : List X} → x ∷ xs ≡ y ∷ ys → x ≡ y
heads e = cc

tails : {X : Type 0} {x y : X} {xs ys : List X} → x ∷ xs ≡ y ∷ ys → xs ≡ ys
tails e = cc

-- the viewers are still those of the publishers
pub viewers-stay : (old new : List CellParts) (viewers : List Viewers) → map (λ (c : CellParts). c.root.viewer.value) new ≡ map (λ (c : CellParts). c.root.viewer.value) old
    → Pairwise AreViewersOf (cell_roots old) viewers → Pairwise AreViewersOf (cell_roots new) viewers
viewers-stay [] [] viewers e p = p
viewers-stay [] (c ∷ new) viewers e p = absurd cc
viewers-stay (c ∷ old) [] viewers e p = absurd cc
viewers-stay (c ∷ old) (d ∷ new) [] e p = p
viewers-stay (c ∷ old) (d ∷ new) (x ∷ viewers) e p =
    (subst (λ v. IsSameViewer v x.commands × IsSameViewer v x.links) (sym (heads e)) p.0, viewers-stay old new viewers (tails e) p.1)

-- what is written back of a slice of all members is the slice
pub written : {X : Type 0} (n : ℕ) (new old : List X) → length new ≡ length old → n ≡ length old → take n (new ++ drop (length new) old) ≡ new
written n new old e f =
    take-append-le n new (drop (length new) old) (omega (arith, e, f)) ∙ take_all n new (omega (arith, e, f))

pub on-both : {T E : Type 0} (r : Result T E) (P Q : Type 0) → (P → Q) → OnOk r P → OnOk r Q
on-both (Ok x) P Q f p = f p
on-both (Err e) P Q f p = tt

pub none-of : (o : Option ℕ) (P : Type 0) → ((x : ℕ) → o ≡ Some x → ⊥) → IfNone o P → P
none-of None P n p = p
none-of (Some x) P n p = absurd (n x refl)
