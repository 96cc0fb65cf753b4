-- Proves what state the reader has after the canonical lines of scripts.
use Rattle.std.proofs.Common.{◌≡◌, ℕ, zero, suc, ◌+◌, ◌*◌, ◌-◌, ◌<◌, ◌≤◌, Bool, true, false, ◌&&◌, List, [], ◌∷◌, ◌++◌, length, map, refl, sym, ap, subst, ◌∙◌, arith, Option, Some, Ok, append_assoc, append-nil}
use Rattle.std.specs.Prelude.{codes, nat_eq, nat_lt, nat_le, slice_get}
use Rattle.std.specs.List.{flat_map}
use Rattle.std.specs.Str.{bytes_eq}
use Rattle.std.proofs.Math.Nat.{mul-le-mul_left}
use Rattle.std.proofs.lemmas.Grind.{common_steps}
use Rattle.filter_text.specs.declared.command.Command.{Command}
use Rattle.filter_text.specs.declared.command.Command.TheVariants as commands
use Rattle.filter_text.specs.declared.semantics.Semantics.{Semantics}
use Rattle.document_format.specs.CommandText.{command_text, IsCommandIn}
use Rattle.document_format.proofs.CommandLaws.{command_spelled}
use Rattle.net_model.specs.Parts.{ClientParts, client_parts}
use Rattle.document_reader.specs.Drawn.{Drawn, is_apart}
use Rattle.document_reader.specs.Drafts.{barriers_at, barriers_of, begun, draft, has_script, is_scripted, name_of, with_barrier, with_command}
use Rattle.document_reader.specs.Tally.{CommandCounts, with_control, with_publish, control_product, notice_product, control_rule, publish_rule}
use Rattle.document_reader.specs.Rules.{count_rule, version_number}
use Rattle.document_reader.specs.Meaning.{stands}
use Rattle.document_reader.specs.declared.draft.Draft.{Draft}
use Rattle.document_reader.specs.declared.version.Version.{Version}
use Rattle.document_reader.specs.declared.state.Place.{Place}
use Rattle.document_reader.specs.declared.state.Place.TheVariants as at
use Rattle.document_reader.proofs.Spelled.{command_told}
use Rattle.filter_text.specs.MessageText.{Each}
use Rattle.document_format.specs.DocumentText.{script_lines, step_lines, barrier_lines, is_idle}
use Rattle.document_format.specs.Limits.{counted, counts_after}
use Rattle.document_format.proofs.Stands.{state, stands_on, stands_next, IsOpen}
use Rattle.document_format.proofs.Stands.IsOpen.{Scripts}
use Rattle.document_format.proofs.ScriptStands.{script_stands, barrier_stands, command_stands}
use Rattle.document_format.proofs.ClientStands.{Rises, changed-middle, place_here, AreApart, IsWritableClient, names_before, unwritten, written, drafts}
use Rattle.std.proofs.lemmas.List.{length-append}

-- Counts.

-- counts within the limits of a document of so many servers and clients
pub record AreCounts (t : CommandCounts) (servers clients : ℕ) : Type 0 where
  pub controls : t.controls ≤ 4096
  pub control_bytes : control_product t servers ≤ 2147483648
  pub publications : t.publications ≤ 100000
  pub publish_bytes : notice_product t clients ≤ 268435456

times : (a b c d : ℕ) → a ≤ c → b ≤ d → a * b ≤ c * d
times a b c d l m = omega (arith, mul-le-mul_left a m, more)
  where
    more : a * d ≤ c * d
    more = let h : d * a ≤ d * c = mul-le-mul_left d l in omega (arith, h)

product_less : (w b v c s : ℕ) → w ≤ v → b ≤ c → (1 + w) * b * s ≤ (1 + v) * c * s
product_less w b v c s l m = times ((1 + w) * b) s ((1 + v) * c) s (times (1 + w) b (1 + v) c (omega arith) m) (omega arith)

-- counts are no greater than later ones
record AreLess (t u : CommandCounts) : Type 0 where
  pub controls : t.controls ≤ u.controls
  pub withdrawals : t.withdrawals ≤ u.withdrawals
  pub control_bytes : t.control_bytes ≤ u.control_bytes
  pub publications : t.publications ≤ u.publications
  pub publish_bytes : t.publish_bytes ≤ u.publish_bytes

less_same : (t : CommandCounts) → AreLess t t
less_same t = record { controls = omega arith; withdrawals = omega arith; control_bytes = omega arith; publications = omega arith; publish_bytes = omega arith }

less_on : (t u v : CommandCounts) → AreLess t u → AreLess u v → AreLess t v
less_on t u v a b = record {
  controls = omega (arith, a.controls, b.controls);
  withdrawals = omega (arith, a.withdrawals, b.withdrawals);
  control_bytes = omega (arith, a.control_bytes, b.control_bytes);
  publications = omega (arith, a.publications, b.publications);
  publish_bytes = omega (arith, a.publish_bytes, b.publish_bytes);
}

counted_more : (t : CommandCounts) (c : Command) → AreLess t (counted t c)
counted_more t (commands.Subscribe f) = record { controls = omega arith; withdrawals = omega arith; control_bytes = omega arith; publications = omega arith; publish_bytes = omega arith }
counted_more t (commands.Unsubscribe f) = record { controls = omega arith; withdrawals = omega arith; control_bytes = omega arith; publications = omega arith; publish_bytes = omega arith }
counted_more t (commands.Advertise a) = record { controls = omega arith; withdrawals = omega arith; control_bytes = omega arith; publications = omega arith; publish_bytes = omega arith }
counted_more t (commands.Unadvertise a) = record { controls = omega arith; withdrawals = omega arith; control_bytes = omega arith; publications = omega arith; publish_bytes = omega arith }
counted_more t (commands.Publish n) = record { controls = omega arith; withdrawals = omega arith; control_bytes = omega arith; publications = omega arith; publish_bytes = omega arith }

after_more : (t : CommandCounts) (steps : List (ℕ × Command)) → AreLess t (counts_after t steps)
after_more t [] = less_same t
after_more t (step ∷ steps) = less_on t (counted t step.1) (counts_after (counted t step.1) steps) (counted_more t step.1) (after_more (counted t step.1) steps)

smaller : (t u : CommandCounts) (servers clients : ℕ) → AreLess t u → AreCounts u servers clients → AreCounts t servers clients
smaller t u servers clients l h = record {
  controls = omega (arith, l.controls, h.controls);
  control_bytes = omega (arith, product_less t.withdrawals t.control_bytes u.withdrawals u.control_bytes servers l.withdrawals l.control_bytes, h.control_bytes);
  publications = omega (arith, l.publications, h.publications);
  publish_bytes = omega (arith, times t.publish_bytes clients u.publish_bytes clients l.publish_bytes (omega arith), h.publish_bytes);
}

pub control_counts : (t : CommandCounts) (withdraws : Bool) (bytes servers clients : ℕ) → AreCounts (with_control t withdraws bytes) servers clients → control_rule t withdraws bytes servers ≡ Ok (with_control t withdraws bytes)
unfolding control_rule
control_counts t withdraws bytes servers clients h =
    let l : t.controls < 4096 = omega (arith, h.controls) in
    let a : nat_lt t.controls 4096 ≡ true = grind (arith, common_steps) in
    let m = h.control_bytes in
    let b : nat_le (control_product (with_control t withdraws bytes) servers) 2147483648 ≡ true = test (control_product (with_control t withdraws bytes) servers) 2147483648 m in
    rw (a, b) refl
  where
    test : (x y : ℕ) → x ≤ y → nat_le x y ≡ true
    test x y l = grind (arith, common_steps)

pub publish_counts : (t : CommandCounts) (bytes servers clients : ℕ) → AreCounts (with_publish t bytes) servers clients → publish_rule t bytes clients ≡ Ok (with_publish t bytes)
unfolding publish_rule
publish_counts t bytes servers clients h =
    let l : t.publications < 100000 = omega (arith, h.publications) in
    let a : nat_lt t.publications 100000 ≡ true = grind (arith, common_steps) in
    let m = h.publish_bytes in
    let b : nat_le (notice_product (with_publish t bytes) clients) 268435456 ≡ true = test (notice_product (with_publish t bytes) clients) 268435456 m in
    rw (a, b) refl
  where
    test : (x y : ℕ) → x ≤ y → nat_le x y ≡ true
    test x y l = grind (arith, common_steps)

counts_taken : (t : CommandCounts) (c : Command) (servers clients : ℕ) → AreCounts (counted t c) servers clients → count_rule t c (length (command_text c)) servers clients ≡ Ok (counted t c)
counts_taken t (commands.Subscribe f) servers clients h = control_counts t false (length (command_text (commands.Subscribe f))) servers clients h
counts_taken t (commands.Unsubscribe f) servers clients h = control_counts t true (length (command_text (commands.Unsubscribe f))) servers clients h
counts_taken t (commands.Advertise a) servers clients h = control_counts t false (length (command_text (commands.Advertise a))) servers clients h
counts_taken t (commands.Unadvertise a) servers clients h = control_counts t true (length (command_text (commands.Unadvertise a))) servers clients h
counts_taken t (commands.Publish n) servers clients h = publish_counts t (length (command_text (commands.Publish n))) servers clients h

-- Steps.

pub get-middle : (done rest : List Draft) (d : Draft) → slice_get (done ++ d ∷ rest) (length done) ≡ Some d
get-middle [] rest d = refl
get-middle (x ∷ done) rest d = get-middle done rest d

-- a client in its script
abbrev in_script : List ℕ → ℕ → ℕ → List (ℕ × Command) → Draft
in_script name home phase steps = draft (client_parts name home phase steps) true

barriers_stand : (n : ℕ) (v : Version) (sem : Semantics) (trees : Drawn) (done rest : List Draft) (name : List ℕ) (home phase : ℕ) (before : List (ℕ × Command)) (tally : CommandCounts) (more : ℕ) → phase + more ≤ 4095
    → stands n (state at.Scripts v sem trees (done ++ in_script name home phase before ∷ rest) (length done) tally []) (barrier_lines more) ≡ Ok (state at.Scripts v sem trees (done ++ in_script name home (phase + more) before ∷ rest) (length done) tally [])
barriers_stand n v sem trees done rest name home phase before tally zero l =
    let e : phase ≡ phase + 0 = omega arith in
    ap (λ (z : ℕ). Ok (state at.Scripts v sem trees (done ++ in_script name home z before ∷ rest) (length done) tally [])) e
barriers_stand n v sem trees done rest name home phase before tally (suc more) l =
    let d = in_script name home phase before in
    let room : barriers_at (done ++ d ∷ rest) (length done) < 4095 = subst (λ (z : Option Draft). barriers_of z < 4095) (sym (get-middle done rest d)) (omega arith) in
    let here = barrier_stands n v sem trees (done ++ d ∷ rest) (length done) tally room ∙ ap (λ (z : List Draft). Ok (state at.Scripts v sem trees z (length done) tally [])) (changed-middle done rest d with_barrier) in
    let e : phase + 1 + more ≡ phase + suc more = omega arith in
    stands_next n _ _ _ (codes "barrier") (barrier_lines more) here
    (subst (λ (z : ℕ). stands (n + 1) (state at.Scripts v sem trees (done ++ in_script name home (phase + 1) before ∷ rest) (length done) tally []) (barrier_lines more) ≡ Ok (state at.Scripts v sem trees (done ++ in_script name home z before ∷ rest) (length done) tally []))
    e (barriers_stand (n + 1) v sem trees done rest name home (phase + 1) before tally more (omega arith)))

-- where the steps rise to the barriers, their phases are at most as many
rises_most : (phase : ℕ) (steps : List (ℕ × Command)) (barriers : ℕ) → Rises phase steps barriers → phase ≤ barriers
rises_most phase [] barriers h = h
rises_most phase (step ∷ steps) barriers h = omega (arith, h.0, rises_most step.0 steps barriers h.1)

steps_stand : (n : ℕ) (v : Version) (sem : Semantics) (trees : Drawn) (done rest : List Draft) (name : List ℕ) (home phase : ℕ) (before steps : List (ℕ × Command)) (barriers : ℕ) (tally : CommandCounts) → barriers ≤ 4095
    → Rises phase steps barriers → Each (λ s. IsCommandIn (version_number v) s.1) steps → AreCounts (counts_after tally steps) trees.servers (length done + suc (length rest))
    → stands n (state at.Scripts v sem trees (done ++ in_script name home phase before ∷ rest) (length done) tally []) (step_lines phase steps barriers)
    ≡ Ok (state at.Scripts v sem trees (done ++ in_script name home barriers (before ++ steps) ∷ rest) (length done) (counts_after tally steps) [])
steps_stand n v sem trees done rest name home phase before [] barriers tally few rises each counts =
    let e : phase + (barriers - phase) ≡ barriers = omega (arith, rises) in
    subst (λ (z : List (ℕ × Command)). stands n (state at.Scripts v sem trees (done ++ in_script name home phase before ∷ rest) (length done) tally []) (barrier_lines (barriers - phase)) ≡ Ok (state at.Scripts v sem trees (done ++ in_script name home barriers z ∷ rest) (length done) tally []))
    (sym (append-nil before))
    (subst (λ (z : ℕ). stands n (state at.Scripts v sem trees (done ++ in_script name home phase before ∷ rest) (length done) tally []) (barrier_lines (barriers - phase)) ≡ Ok (state at.Scripts v sem trees (done ++ in_script name home z before ∷ rest) (length done) tally []))
    e (barriers_stand n v sem trees done rest name home phase before tally (barriers - phase) (omega (arith, e, few))))
steps_stand n v sem trees done rest name home phase before (step ∷ steps) barriers tally few rises each counts =
    let m = rises_most step.0 steps barriers rises.1 in
    let e : phase + (step.0 - phase) ≡ step.0 = omega (arith, rises.0) in
    let d = in_script name home step.0 before in
    let k = length (barrier_lines (step.0 - phase)) + n in
    let len : length (done ++ d ∷ rest) ≡ length done + suc (length rest) = length-append done (d ∷ rest) in
    let now : AreCounts (counted tally step.1) trees.servers (length done + suc (length rest)) = smaller (counted tally step.1) (counts_after (counted tally step.1) steps) trees.servers (length done + suc (length rest)) (after_more (counted tally step.1) steps) counts in
    let taken : count_rule tally step.1 (length (command_text step.1)) trees.servers (length (done ++ d ∷ rest)) ≡ Ok (counted tally step.1) = subst (λ (z : ℕ). count_rule tally step.1 (length (command_text step.1)) trees.servers z ≡ Ok (counted tally step.1)) (sym len) (counts_taken tally step.1 trees.servers (length done + suc (length rest)) now) in
    let spelled = command_told (version_number v) (command_text step.1) step.1 (command_spelled (version_number v) step.1 each.0) in
    let here = command_stands k v sem trees (done ++ d ∷ rest) (length done) tally (counted tally step.1) step.1 spelled taken
    ∙ ap (λ (z : List Draft). Ok (state at.Scripts v sem trees z (length done) (counted tally step.1) [])) (changed-middle done rest d (with_command step.1)) in
    stands_on n _ (state at.Scripts v sem trees (done ++ d ∷ rest) (length done) tally []) _ (barrier_lines (step.0 - phase)) (command_text step.1 ∷ step_lines step.0 steps barriers)
    (subst (λ (z : ℕ). stands n (state at.Scripts v sem trees (done ++ in_script name home phase before ∷ rest) (length done) tally []) (barrier_lines (step.0 - phase)) ≡ Ok (state at.Scripts v sem trees (done ++ in_script name home z before ∷ rest) (length done) tally []))
    e (barriers_stand n v sem trees done rest name home phase before tally (step.0 - phase) (omega (arith, e, m, few))))
    (stands_next k _ _ _ (command_text step.1) (step_lines step.0 steps barriers) here
    (subst (λ (z : List (ℕ × Command)). stands (k + 1) (state at.Scripts v sem trees (done ++ in_script name home step.0 (before ++ step ∷ []) ∷ rest) (length done) (counted tally step.1) []) (step_lines step.0 steps barriers) ≡ Ok (state at.Scripts v sem trees (done ++ in_script name home barriers z ∷ rest) (length done) (counts_after (counted tally step.1) steps) []))
    (append_assoc before (step ∷ []) steps) (steps_stand (k + 1) v sem trees done rest name home step.0 (before ++ step ∷ []) steps barriers (counted tally step.1) few rises.1 each.1 counts)))

-- Scripts.

absent_drafts : (name : List ℕ) (cs : List ClientParts) → Each (λ o. bytes_eq name o.name ≡ false) cs → Each (λ d. bytes_eq name (name_of d) ≡ false) (map written cs)
absent_drafts name [] h = tt
absent_drafts name (c ∷ cs) h = (h.0, absent_drafts name cs h.1)

written-length : (cs : List ClientParts) → length (map written cs) ≡ length cs
written-length [] = refl
written-length (c ∷ cs) = ap suc (written-length cs)

unwritten-length : (cs : List ClientParts) → length (map unwritten cs) ≡ length cs
unwritten-length [] = refl
unwritten-length (c ∷ cs) = ap suc (unwritten-length cs)

pub no-scripts : (done rest : List Draft) (d : Draft) → d.has_script ≡ false → has_script (done ++ d ∷ rest) (length done) ≡ false
no-scripts done rest d e = subst (λ (z : Option Draft). is_scripted z ≡ false) (sym (get-middle done rest d)) e

-- a client without commands and barriers
pub idle_is : (c : ClientParts) → is_idle c ≡ true → (c.script ≡ []) × (c.barriers ≡ 0)
idle_is c e = (nil c.script (zero_is (length c.script) (both (nat_eq (length c.script) 0) (nat_eq c.barriers 0) e).0), zero_is c.barriers (both (nat_eq (length c.script) 0) (nat_eq c.barriers 0) e).1)
  where
    both : (a b : Bool) → a && b ≡ true → (a ≡ true) × (b ≡ true)
    both true b h = (refl, h)
    both false b h = cc

    zero_is : (n : ℕ) → nat_eq n 0 ≡ true → n ≡ 0
    zero_is n h = grind (arith, common_steps)

    nil : (xs : List (ℕ × Command)) → length xs ≡ 0 → xs ≡ []
    nil [] h = refl
    nil (x ∷ xs) h = absurd (omega arith)

idle_written : (c : ClientParts) → is_idle c ≡ true → unwritten c ≡ draft c false
idle_written c e =
    let i = idle_is c e in
    ap (λ (z : ℕ). draft (client_parts c.name c.home z []) false) (sym i.1) ∙ ap (λ (z : List (ℕ × Command)). draft (client_parts c.name c.home c.barriers z) false) (sym i.0)

script_stand : (n : ℕ) (p : Place) (v : Version) (sem : Semantics) (trees : Drawn) (done rest : List Draft) (c : ClientParts) (k : ℕ) (tally : CommandCounts) → IsOpen p → is_apart trees ≡ false
    → IsWritableClient (version_number v) trees.servers c → Each (λ d. bytes_eq c.name (name_of d) ≡ false) done → AreCounts (counts_after tally c.script) trees.servers (length done + suc (length rest))
    → (q : Place) × IsOpen q × (m : ℕ) × (stands n (state p v sem trees (done ++ unwritten c ∷ rest) k tally []) (script_lines c) ≡ Ok (state q v sem trees (done ++ written c ∷ rest) m (counts_after tally c.script) []))
script_stand n p v sem trees done rest c k tally o whole is absent counts = go (is_idle c) refl
  where
    go : (b : Bool) → is_idle c ≡ b → (q : Place) × IsOpen q × (m : ℕ) × (stands n (state p v sem trees (done ++ unwritten c ∷ rest) k tally []) (script_lines c) ≡ Ok (state q v sem trees (done ++ written c ∷ rest) m (counts_after tally c.script) []))
    go true e =
        let i = idle_is c e in
        (p, o, k, rw e (ap (λ (z : Draft). Ok (state p v sem trees (done ++ z ∷ rest) k tally [])) (idle_written c e) ∙ ap (λ (z : List (ℕ × Command)). Ok (state p v sem trees (done ++ draft c false ∷ rest) k (counts_after tally z) [])) (sym i.0)))
    go false e =
        let here = script_stands n p v sem trees (done ++ unwritten c ∷ rest) k tally c.name (length done) o whole is.name (place_here c.name done rest (unwritten c) absent refl) (no-scripts done rest (unwritten c) refl)
        ∙ ap (λ (z : List Draft). Ok (state at.Scripts v sem trees z (length done) tally [])) (changed-middle done rest (unwritten c) begun) in
        let more = steps_stand (n + 1) v sem trees done rest c.name c.home 0 [] c.script c.barriers tally is.barriers is.rises is.commands counts in (
          at.Scripts,
          Scripts,
          length done,
          rw e (stands_next n _ _ _ (codes "script " ++ c.name) (step_lines 0 c.script c.barriers) here more),
        )

counts-append : (tally : CommandCounts) (xs ys : List (ℕ × Command)) → counts_after tally (xs ++ ys) ≡ counts_after (counts_after tally xs) ys
counts-append tally [] ys = refl
counts-append tally (x ∷ xs) ys = counts-append (counted tally x.1) xs ys

written-append : (cs : List ClientParts) (c : ClientParts) → map written (cs ++ c ∷ []) ≡ map written cs ++ written c ∷ []
written-append [] c = refl
written-append (d ∷ cs) c = ap (λ (z : List Draft). written d ∷ z) (written-append cs c)

pub scripts_stand : (n : ℕ) (p : Place) (v : Version) (sem : Semantics) (trees : Drawn) (done rest : List ClientParts) (k : ℕ) (tally : CommandCounts) → IsOpen p → is_apart trees ≡ false
    → Each (IsWritableClient (version_number v) trees.servers) rest → AreApart (done ++ rest) → AreCounts (counts_after tally (flat_map (λ c. c.script) rest)) trees.servers (length (done ++ rest))
    → (q : Place) × IsOpen q × (m : ℕ) × (stands n (state p v sem trees (drafts done rest) k tally []) (flat_map script_lines rest) ≡ Ok (state q v sem trees (map written (done ++ rest)) m (counts_after tally (flat_map (λ c. c.script) rest)) []))
scripts_stand n p v sem trees done [] k tally o whole each apart counts =
    let e : map written done ++ [] ≡ map written (done ++ []) = append-nil (map written done) ∙ ap (map written) (sym (append-nil done)) in
    (p, o, k, ap (λ (z : List Draft). Ok (state p v sem trees z k tally [])) e)
scripts_stand n p v sem trees done (c ∷ rest) k tally o whole each apart counts =
    let later = flat_map (λ (x : ClientParts). x.script) rest in
    let split : counts_after tally (c.script ++ later) ≡ counts_after (counts_after tally c.script) later = counts-append tally c.script later in
    let counts_then : AreCounts (counts_after (counts_after tally c.script) later) trees.servers (length (done ++ c ∷ rest)) = subst (λ (z : CommandCounts). AreCounts z trees.servers (length (done ++ c ∷ rest))) split counts in
    let counts_now : AreCounts (counts_after tally c.script) trees.servers (length (done ++ c ∷ rest)) = smaller (counts_after tally c.script) (counts_after (counts_after tally c.script) later) trees.servers (length (done ++ c ∷ rest)) (after_more (counts_after tally c.script) later) counts_then in
    let len : length (done ++ c ∷ rest) ≡ length (map written done) + suc (length (map unwritten rest)) = (let a = length-append done (c ∷ rest) in let b = written-length done in let d = unwritten-length rest in omega (arith, a, b, d)) in
    let one = script_stand n p v sem trees (map written done) (map unwritten rest) c k tally o whole each.0 (absent_drafts c.name done (names_before done rest c apart)) (subst (λ (z : ℕ). AreCounts (counts_after tally c.script) trees.servers z) len counts_now) in
    let same : (done ++ c ∷ []) ++ rest ≡ done ++ c ∷ rest = append_assoc done (c ∷ []) rest in
    let front : drafts (done ++ c ∷ []) rest ≡ map written done ++ written c ∷ map unwritten rest = ap (λ (z : List Draft). z ++ map unwritten rest) (written-append done c) ∙ append_assoc (map written done) (written c ∷ []) (map unwritten rest) in
    let more = scripts_stand (length (script_lines c) + n) one.0 v sem trees (done ++ c ∷ []) rest one.2 (counts_after tally c.script) one.1 whole each.1 (subst AreApart (sym same) apart) (subst (λ (z : List ClientParts). AreCounts (counts_after (counts_after tally c.script) later) trees.servers (length z)) (sym same) counts_then) in (
      more.0,
      more.1,
      more.2,
      stands_on n _ _ _ (script_lines c) (flat_map script_lines rest) one.3
          (ap (λ (z : List Draft). stands (length (script_lines c) + n) (state one.0 v sem trees z one.2 (counts_after tally c.script) []) (flat_map script_lines rest)) (sym front)
          ∙ more.3
          ∙ ap (λ (z : List ClientParts). Ok (state more.0 v sem trees (map written z) more.2 (counts_after (counts_after tally c.script) later) [])) same
          ∙ ap (λ (z : CommandCounts). Ok (state more.0 v sem trees (map written (done ++ c ∷ rest)) more.2 z [])) (sym split)),
    )
