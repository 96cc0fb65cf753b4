-- Proves that a line spells at most one command.
use Rattle.std.proofs.Common.{◌≡◌, inl, inr, ℕ, zero, suc, refl, sym, ap, subst, ◌∙◌, arith, List, [], ◌∷◌}
use Rattle.std.specs.declared.cmp.Ordering.TheVariants.{Less}
use Rattle.std.specs.Ordering.{nat_cmp}
use Rattle.std.specs.Cmp.Lexicographic.{slice_cmp, nat_list_cmp_total}
use Rattle.std.specs.List.{Contains}
use Rattle.std.specs.List.Sorted.{IsPermutation}
use Rattle.std.proofs.lemmas.Cmp.{tied_itself}
use Rattle.std.proofs.lemmas.List.Sorted.{Contains-permutation, IsPermutation-sym}
use Rattle.std.proofs.lemmas.Option.{same_Some}
use Rattle.filter_constraints.specs.Constraint.{ConstraintParts}
use Rattle.filter_types.specs.Canonical.{canonical}
use Rattle.filter_types.specs.Notice.{Attribute, AreRising}
use Rattle.base.specs.Sets.{Has}
use Rattle.filter_text.specs.declared.command.Command.{Command}
use Rattle.filter_text.specs.declared.command.Command.TheVariants as commands
use Rattle.document_script.specs.declared.form.Given.{Given}
use Rattle.document_script.specs.declared.form.Part.{Part}
use Rattle.document_script.specs.declared.verb.Verb.{Verb}
use Rattle.document_script.specs.declared.verb.Verb.TheVariants as verbs
use Rattle.document_script.specs.Form.{CommandForm}
use Rattle.document_script.specs.Form.CommandForm.{control, publish}
use Rattle.document_script.specs.Command.{Spells, IsCommandOf, wholes, fits}
use Rattle.base.proofs.Sets.{has-contains, contains-has}

-- each is above the first
above : (a x : Attribute) (n : List Attribute) → AreRising (a ∷ n) → Has x n → slice_cmp nat_cmp a.0 x.0 ≡ Less
above a x [] r m = absurd m
above a x (b ∷ n) r (inl e) = ap (λ (z : Attribute). slice_cmp nat_cmp a.0 z.0) e ∙ r.0
above a x (b ∷ n) r (inr m) = nat_list_cmp_total.trans a.0 b.0 x.0 r.0 (above b x n r.1 m)

pub rest_rising : (a : Attribute) (n : List Attribute) → AreRising (a ∷ n) → AreRising n
rest_rising a [] r = tt
rest_rising a (b ∷ n) r = r.1

not_above : (x : List ℕ) → slice_cmp nat_cmp x x ≡ Less → ⊥
not_above x h = let s = tied_itself nat_list_cmp_total x in cc

-- rising lists of the same attributes are one
same : (m n : List Attribute) → AreRising m → AreRising n → ((x : Attribute) → Has x m → Has x n) → ((x : Attribute) → Has x n → Has x m) → m ≡ n
same [] [] r s f g = refl
same [] (b ∷ n) r s f g = absurd (g b (inl refl))
same (a ∷ m) [] r s f g = absurd (f a (inl refl))
same (a ∷ m) (b ∷ n) r s f g =
    let first : a ≡ b = heads (f a (inl refl)) (g b (inl refl)) in
    let rest : m ≡ n = same m n (rest_rising a m r) (rest_rising b n s)
    (λ z h. down z a b m n first r h (f z (inr h)))
    (λ z h. down z b a n m (sym first) s h (g z (inr h))) in
    cc
  where
    heads : Has a (b ∷ n) → Has b (a ∷ m) → a ≡ b
    heads (inl e) h = e
    heads (inr h) (inl e) = sym e
    heads (inr h) (inr k) = absurd (not_above b.0 (nat_list_cmp_total.trans b.0 a.0 b.0 (above b a n s h) (above a b m r k)))

    down : (z c d : Attribute) (us vs : List Attribute) → c ≡ d → AreRising (c ∷ us) → Has z us → Has z (d ∷ vs) → Has z vs
    down z c d us vs e w h (inr k) = k
    down z c d us vs e w h (inl p) = absurd (not_above c.0 (subst (λ (v : Attribute). slice_cmp nat_cmp c.0 v.0 ≡ Less) (p ∙ sym e) (above c z us w h)))

-- rising orders of one list are one
rising_once : (xs m n : List Attribute) → IsPermutation xs m × AreRising m → IsPermutation xs n × AreRising n → m ≡ n
rising_once xs m n a b = same m n a.1 b.1 (λ x h. across m n a.0 b.0 x h) (λ x h. across n m b.0 a.0 x h)
  where
    across : (us vs : List Attribute) → IsPermutation xs us → IsPermutation xs vs → (x : Attribute) → Has x us → Has x vs
    across us vs p q x h = contains-has x vs (Contains-permutation xs vs x q (Contains-permutation us xs x (IsPermutation-sym xs us p) (has-contains x us h)))

-- the command of a first word and a list; a notice is none
abbrev of_verb : Verb → List ConstraintParts → Command
of_verb verbs.Subscribe f = commands.Subscribe f
of_verb verbs.Unsubscribe f = commands.Unsubscribe f
of_verb verbs.Advertise f = commands.Advertise f
of_verb verbs.Unadvertise f = commands.Unadvertise f
of_verb verbs.Publish f = commands.Publish []

control_is : (v : Verb) (parts : List Part) (c : Command) → Spells (control v parts) c → c ≡ of_verb v (canonical (wholes parts))
control_is verbs.Subscribe parts (commands.Subscribe f) h = ap commands.Subscribe h
control_is verbs.Unsubscribe parts (commands.Unsubscribe f) h = ap commands.Unsubscribe h
control_is verbs.Advertise parts (commands.Advertise f) h = ap commands.Advertise h
control_is verbs.Unadvertise parts (commands.Unadvertise f) h = ap commands.Unadvertise h
control_is v parts c h = absurd h

publish_is : (attributes : List (List ℕ × Given)) (c : Command) → Spells (publish attributes) c → (n : List Attribute) × (c ≡ commands.Publish n) × (IsPermutation (fits attributes) n × AreRising n)
publish_is attributes (commands.Publish n) h = (n, refl, h)
publish_is attributes c h = absurd h

form_once : (form : CommandForm) (c d : Command) → Spells form c → Spells form d → c ≡ d
form_once (control v parts) c d h k = control_is v parts c h ∙ sym (control_is v parts d k)
form_once (publish attributes) c d h k =
    let m = publish_is attributes c h in
    let n = publish_is attributes d k in
    m.1 ∙ ap commands.Publish (rising_once (fits attributes) m.0 n.0 m.2 n.2) ∙ sym n.1

pub command_once : (version : ℕ) (line : List ℕ) (c d : Command) → IsCommandOf version line c → IsCommandOf version line d → c ≡ d
command_once version line c d h k =
    let same_form : k.0 ≡ h.0 = same_Some k.0 h.0 (sym k.1 ∙ h.1) in
    form_once h.0 c d h.3 (subst (λ (f : CommandForm). Spells f d) same_form k.3)
