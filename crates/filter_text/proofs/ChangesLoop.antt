-- Reading changes one after the other, as a loop does.
use Rattle.std.proofs.Common.{◌≡◌, ℕ, suc, ◌-◌, ◌+◌, ◌≤◌, ◌<◌, true, false, List, [], ◌∷◌, ◌++◌, refl, sym, ◌∙◌, arith}
use Rattle.std.specs.Prelude.{Some, None}
use Rattle.std.specs.declared.option.Option.{Option}
use Rattle.filter_text.specs.declared.fault.WireFault.{WireFault}
use Rattle.filter_text.specs.declared.fault.WireFault.TheVariants as faults
use Rattle.filter_text.specs.Reading.{Fails}
use Rattle.filter_text.specs.Changes.{marked_at, braced_at, changes_at}

pub goes_on : {A : Type 0} (one : List ℕ → Option (A × List ℕ)) (sign count i : ℕ) (read : List A) (bytes inner after : List ℕ) (x : A) (total : Option (List A × List ℕ)) → i < count → (true, inner) ≡ marked_at sign bytes → braced_at one inner ≡ Some (x, after)
    → changes_at one sign (count - i) read bytes ≡ total → changes_at one sign (count - (i + 1)) (read ++ x ∷ []) after ≡ total
unfolding changes_at
goes_on one sign count i read bytes inner after x total lt m h so_far =
    let k : count - i ≡ suc (count - (i + 1)) = omega arith in
    let step : changes_at one sign (count - i) read bytes ≡ changes_at one sign (count - (i + 1)) (read ++ x ∷ []) after = rw (k, ← m, h) refl in
    sym step ∙ so_far

pub stops : {A : Type 0} (one : List ℕ → Option (A × List ℕ)) (sign count i : ℕ) (read : List A) (bytes left : List ℕ) (total : Option (List A × List ℕ)) → i < count → (false, left) ≡ marked_at sign bytes
    → changes_at one sign (count - i) read bytes ≡ total → total ≡ Some (read, left)
unfolding changes_at
stops one sign count i read bytes left total lt m so_far =
    let k : count - i ≡ suc (count - (i + 1)) = omega arith in
    let step : changes_at one sign (count - i) read bytes ≡ Some (read, left) = rw (k, ← m) refl in
    sym so_far ∙ step

pub fails : {A : Type 0} (e : WireFault) (one : List ℕ → Option (A × List ℕ)) (sign count i : ℕ) (read : List A) (bytes inner : List ℕ) (total : Option (List A × List ℕ)) → i < count → (true, inner) ≡ marked_at sign bytes → Fails e (braced_at one inner)
    → changes_at one sign (count - i) read bytes ≡ total → Fails e total
unfolding changes_at
fails faults.NoMemory one sign count i read bytes inner total lt m h so_far = tt
fails faults.Outside one sign count i read bytes inner total lt m h so_far =
    let k : count - i ≡ suc (count - (i + 1)) = omega arith in
    let step : changes_at one sign (count - i) read bytes ≡ None = rw (k, ← m, h) refl in
    sym so_far ∙ step

pub ends : {A : Type 0} (one : List ℕ → Option (A × List ℕ)) (sign count i : ℕ) (read : List A) (bytes : List ℕ) (total : Option (List A × List ℕ)) → count ≤ i → changes_at one sign (count - i) read bytes ≡ total → total ≡ Some (read, bytes)
unfolding changes_at
ends one sign count i read bytes total le so_far = let k : count - i ≡ 0 = omega arith in let step : changes_at one sign (count - i) read bytes ≡ Some (read, bytes) = rw k refl in sym so_far ∙ step
