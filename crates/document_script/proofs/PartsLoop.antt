-- Reading parts one after the other, as a loop does.
use Rattle.std.proofs.Common.{◌≡◌, ℕ, suc, ◌-◌, ◌+◌, ◌≤◌, ◌<◌, Bool, true, false, List, [], ◌∷◌, ◌++◌, length, refl, sym, ap, subst, ◌∙◌, arith}
use Rattle.std.specs.Prelude.{Some, None, ◌||◌}
use Rattle.std.specs.List.{filter_map, list_any}
use Rattle.std.specs.declared.option.Option.{Option}
use Rattle.std.proofs.lemmas.List.Elements.{filter_map-append}
use Rattle.std.proofs.lemmas.List.Folds.{list_any-append}
use Rattle.document_script.specs.declared.fault.ScriptFault.{ScriptFault}
use Rattle.document_script.specs.declared.fault.ScriptFault.TheVariants as faults
use Rattle.document_script.specs.Tokens.{Token}
use Rattle.document_script.specs.Form.{more_in, parts_in}
use Rattle.document_script.specs.Reading.{FailsOnTokens, IsGathered}
use Rattle.base.proofs.Lists.{push-not-empty}

-- parts were read of which so much is kept, and what is left gives the whole with them
pub record AreRead {P I : Type 0} (one : List Token → Option (P × List Token)) (keeps : Bool × List I → List I → Type 0) (inside : P → Option I) (is_beyond is_empty : P → Bool) (most : ℕ) (ts : List Token) (total : Option (List P)) (inner : Bool × List I) (has_beyond has_empty : Bool) : Type 0 where
  pub read : List P
  pub rest : parts_in one most read ts ≡ total
  pub kept : keeps inner (filter_map inside read)
  pub beyond : has_beyond ≡ list_any is_beyond read
  pub empty : has_empty ≡ list_any is_empty read

or_last : (a : Bool) → (a || false) ≡ a
or_last true = refl
or_last false = refl

any_more : {P : Type 0} (p : P → Bool) (read : List P) (x : P) (before after : Bool) → before ≡ list_any p read → after ≡ (before || p x) → after ≡ list_any p (read ++ x ∷ [])
any_more p read x before after b a = a ∙ ap (λ (z : Bool). z || p x) b ∙ ap (λ (z : Bool). list_any p read || z) (sym (or_last (p x))) ∙ sym (list_any-append p read (x ∷ []))

kept_more : {P I : Type 0} (keeps : Bool × List I → List I → Type 0) (inside : P → Option I) (read : List P) (x : P) (after : Bool × List I) → keeps after (filter_map inside read ++ filter_map inside (x ∷ [])) → keeps after (filter_map inside (read ++ x ∷ []))
kept_more {I = I} keeps inside read x after k = subst (λ (z : List I). keeps after z) (sym (filter_map-append inside read (x ∷ []))) k

step : {P : Type 0} (one : List Token → Option (P × List Token)) (most i : ℕ) (read : List P) (ts : List Token) (x : P) (after left : List Token) → i < most → one ts ≡ Some (x, after) → more_in after ≡ Some (true, left)
    → parts_in one (most - i) read ts ≡ parts_in one (most - (i + 1)) (read ++ x ∷ []) left
unfolding parts_in
step one most i read ts x after left lt h m = let k : most - i ≡ suc (most - (i + 1)) = omega arith in rw (k, h, m) refl

last : {P : Type 0} (one : List Token → Option (P × List Token)) (most i : ℕ) (read : List P) (ts : List Token) (x : P) (after left : List Token) → i < most → one ts ≡ Some (x, after) → more_in after ≡ Some (false, left)
    → parts_in one (most - i) read ts ≡ Some (read ++ x ∷ [])
unfolding parts_in
last one most i read ts x after left lt h m = let k : most - i ≡ suc (most - (i + 1)) = omega arith in rw (k, h, m) refl

no_part : {P : Type 0} (one : List Token → Option (P × List Token)) (most i : ℕ) (read : List P) (ts : List Token) → i < most → one ts ≡ None → parts_in one (most - i) read ts ≡ None
unfolding parts_in
no_part one most i read ts lt h = let k : most - i ≡ suc (most - (i + 1)) = omega arith in rw (k, h) refl

no_end : {P : Type 0} (one : List Token → Option (P × List Token)) (most i : ℕ) (read : List P) (ts : List Token) (x : P) (after : List Token) → i < most → one ts ≡ Some (x, after) → more_in after ≡ None → parts_in one (most - i) read ts ≡ None
unfolding parts_in
no_end one most i read ts x after lt h m = let k : most - i ≡ suc (most - (i + 1)) = omega arith in rw (k, h, m) refl

none_left : {P : Type 0} (one : List Token → Option (P × List Token)) (most i : ℕ) (read : List P) (ts : List Token) → most ≤ i → parts_in one (most - i) read ts ≡ None
unfolding parts_in
none_left one most i read ts le = let k : most - i ≡ 0 = omega arith in rw k refl

pub goes_on : {P I : Type 0} (one : List Token → Option (P × List Token)) (keeps : Bool × List I → List I → Type 0) (inside : P → Option I) (is_beyond is_empty : P → Bool) (most i : ℕ) (ts : List Token) (x : P) (after left : List Token) (total : Option (List P)) (kept kept' : Bool × List I) (b b' e e' : Bool)
    → i < most → one ts ≡ Some (x, after) → more_in after ≡ Some (true, left) → AreRead one keeps inside is_beyond is_empty (most - i) ts total kept b e
    → ((before : List I) → keeps kept before → keeps kept' (before ++ filter_map inside (x ∷ []))) → b' ≡ (b || is_beyond x) → e' ≡ (e || is_empty x) → AreRead one keeps inside is_beyond is_empty (most - (i + 1)) left total kept' b' e'
goes_on one keeps inside is_beyond is_empty most i ts x after left total kept kept' b b' e e' lt h m s k' n' l' =
    record {
      read = s.read ++ x ∷ [];
      rest = sym (step one most i s.read ts x after left lt h m) ∙ s.rest;
      kept = kept_more keeps inside s.read x kept' (k' (filter_map inside s.read) s.kept);
      beyond = any_more is_beyond s.read x b b' s.beyond n';
      empty = any_more is_empty s.read x e e' s.empty l';
    }

pub stops : {P I : Type 0} (one : List Token → Option (P × List Token)) (keeps : Bool × List I → List I → Type 0) (inside : P → Option I) (is_beyond is_empty : P → Bool) (most i : ℕ) (ts : List Token) (x : P) (after left : List Token) (total : Option (List P)) (kept kept' : Bool × List I) (b b' e e' : Bool)
    → i < most → one ts ≡ Some (x, after) → more_in after ≡ Some (false, left) → AreRead one keeps inside is_beyond is_empty (most - i) ts total kept b e
    → ((before : List I) → keeps kept before → keeps kept' (before ++ filter_map inside (x ∷ []))) → b' ≡ (b || is_beyond x) → e' ≡ (e || is_empty x)
    → (parts : List P) × (total ≡ Some parts) × IsGathered keeps inside is_beyond is_empty kept' b' e' parts
stops one keeps inside is_beyond is_empty most i ts x after left total kept kept' b b' e e' lt h m s k' n' l' = (
  s.read ++ x ∷ [],
  sym s.rest ∙ last one most i s.read ts x after left lt h m,
  record {
    some = push-not-empty s.read x;
    kept = kept_more keeps inside s.read x kept' (k' (filter_map inside s.read) s.kept);
    beyond = any_more is_beyond s.read x b b' s.beyond n';
    empty = any_more is_empty s.read x e e' s.empty l';
  },
)

pub ends : {P I : Type 0} (fault : ScriptFault) (one : List Token → Option (P × List Token)) (keeps : Bool × List I → List I → Type 0) (inside : P → Option I) (is_beyond is_empty : P → Bool) (most i : ℕ) (ts : List Token) (total : Option (List P)) (kept : Bool × List I) (b e : Bool)
    → i < most → FailsOnTokens fault (one ts) → AreRead one keeps inside is_beyond is_empty (most - i) ts total kept b e → FailsOnTokens fault total
ends faults.NoMemory one keeps inside is_beyond is_empty most i ts total kept b e lt h s = tt
ends faults.Syntax one keeps inside is_beyond is_empty most i ts total kept b e lt h s = sym s.rest ∙ no_part one most i s.read ts lt h
ends faults.Value one keeps inside is_beyond is_empty most i ts total kept b e lt h s = absurd h
ends faults.Operand one keeps inside is_beyond is_empty most i ts total kept b e lt h s = absurd h
ends faults.Count one keeps inside is_beyond is_empty most i ts total kept b e lt h s = absurd h
ends faults.Repeat one keeps inside is_beyond is_empty most i ts total kept b e lt h s = absurd h

pub breaks : {P I : Type 0} (one : List Token → Option (P × List Token)) (keeps : Bool × List I → List I → Type 0) (inside : P → Option I) (is_beyond is_empty : P → Bool) (most i : ℕ) (ts : List Token) (x : P) (after : List Token) (total : Option (List P)) (kept : Bool × List I) (b e : Bool)
    → i < most → one ts ≡ Some (x, after) → more_in after ≡ None → AreRead one keeps inside is_beyond is_empty (most - i) ts total kept b e → total ≡ None
breaks one keeps inside is_beyond is_empty most i ts x after total kept b e lt h m s = sym s.rest ∙ no_end one most i s.read ts x after lt h m

pub runs_out : {P I : Type 0} (one : List Token → Option (P × List Token)) (keeps : Bool × List I → List I → Type 0) (inside : P → Option I) (is_beyond is_empty : P → Bool) (most i : ℕ) (ts : List Token) (total : Option (List P)) (kept : Bool × List I) (b e : Bool)
    → most ≤ i → AreRead one keeps inside is_beyond is_empty (most - i) ts total kept b e → total ≡ None
runs_out one keeps inside is_beyond is_empty most i ts total kept b e le s = sym s.rest ∙ none_left one most i s.read ts le
