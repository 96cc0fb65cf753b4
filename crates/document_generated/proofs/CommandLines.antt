-- The lines of commands in a script, with the counts that they make.
use Rattle.std.proofs.Common.{◌≡◌, ℕ, ◌+◌, ◌*◌, ◌<◌, ◌≤◌, true, false, List, [], ◌∷◌, ◌++◌, length, refl, sym, ap, subst, ◌∙◌, arith, Ok}
use Rattle.std.specs.Prelude.{codes, nat_eq}
use Rattle.std.proofs.lemmas.List.{length-append}
use Rattle.base.proofs.Lists.{list_all-append}
use Rattle.base.specs.Sets.{set_of}
use Rattle.filter_types.specs.Canonical.{canonical}
use Rattle.filter_types.specs.Notice.{is_name_less}
use Rattle.filter_text.specs.FilterText.{constraints_text}
use Rattle.filter_text.specs.NoticeText.{notice_text}
use Rattle.filter_text.specs.declared.command.Command.{Command}
use Rattle.filter_text.specs.declared.command.Command.TheVariants as commands
use Rattle.filter_text.specs.declared.semantics.Semantics.TheVariants.{Subscription}
use Rattle.document_reader.specs.Drawn.{drawn}
use Rattle.document_reader.specs.Drafts.{name_of, with_command}
use Rattle.document_reader.specs.Tally.{CommandCounts, with_control, with_publish}
use Rattle.document_reader.specs.Commands.{command_of}
use Rattle.document_reader.specs.Rules.{command_rule, count_rule}
use Rattle.document_reader.specs.Places.{line_rule}
use Rattle.document_reader.specs.declared.draft.Draft.{Draft}
use Rattle.document_reader.specs.declared.state.State.{State}
use Rattle.document_reader.specs.declared.state.Place.TheVariants as at
use Rattle.document_reader.specs.declared.version.Version.TheVariants.{One}
use Rattle.document_format.proofs.Cuts.{are_word_bytes}
use Rattle.document_format.proofs.Shown.{constraints_shown, notice_shown}
use Rattle.document_format.proofs.Stands.{state}
use Rattle.document_format.proofs.ScriptStands.{IsVerb, verb_line}
use Rattle.document_format.proofs.ClientStands.{changed-middle}
use Rattle.document_format.proofs.StepStands.{AreCounts, control_counts, publish_counts}
use Rattle.document_generate.specs.Lines.{subscribe_line, publish_line}
use Rattle.document_generated.proofs.Leading.{Leads, leads-line, leads-same}
use Rattle.document_generated.proofs.Forms.{subscribe-spelled, publish-spelled}
use Rattle.document_generated.proofs.Subscribing.{drawn-subscribing}
use Rattle.document_generated.proofs.Publishing.{publishing}

-- Counts.

-- no more than so many control and publish commands, none of which withdraws, on lines of at most 100 bytes
pub record AreFew (t : CommandCounts) (controls publications : ℕ) : Type 0 where
  pub few : t.controls ≤ controls
  pub withdrawals : t.withdrawals ≡ 0
  pub control_bytes : t.control_bytes ≤ 100 * controls
  pub published : t.publications ≤ publications
  pub publish_bytes : t.publish_bytes ≤ 100 * publications

one-control : (t : CommandCounts) (c p bytes : ℕ) → AreFew t c p → bytes ≤ 100 → AreFew (with_control t false bytes) (c + 1) p
one-control t c p bytes h l = record {
  few = omega (arith, h.few);
  withdrawals = omega (arith, h.withdrawals);
  control_bytes = omega (arith, h.control_bytes, l);
  published = h.published;
  publish_bytes = h.publish_bytes;
}

one-publish : (t : CommandCounts) (c p bytes : ℕ) → AreFew t c p → bytes ≤ 100 → AreFew (with_publish t bytes) c (p + 1)
one-publish t c p bytes h l = record {
  few = h.few;
  withdrawals = h.withdrawals;
  control_bytes = h.control_bytes;
  published = omega (arith, h.published);
  publish_bytes = omega (arith, h.publish_bytes, l);
}

pub more-few : (t : CommandCounts) (c p d q : ℕ) → c ≤ d → p ≤ q → AreFew t c p → AreFew t d q
more-few t c p d q l m h = record {
  few = omega (arith, h.few, l);
  withdrawals = h.withdrawals;
  control_bytes = omega (arith, h.control_bytes, l);
  published = omega (arith, h.published, m);
  publish_bytes = omega (arith, h.publish_bytes, m);
}

-- the numbers of control and publish commands that a generated document has at most
within-limits : (t : CommandCounts) (c p : ℕ) → AreFew t c p → c ≤ 256 → p ≤ 2048 → AreCounts t 16 64
within-limits t c p h l m = record {
  controls = omega (arith, h.few, l);
  control_bytes = rw h.withdrawals (omega (arith, h.control_bytes, l));
  publications = omega (arith, h.published, m);
  publish_bytes = omega (arith, h.publish_bytes, m);
}

-- Lines.

module _ (edges : List (ℕ × ℕ)) where
  -- what stands in the script of a client
  abbrev pub scripting : List Draft → Draft → List Draft → CommandCounts → State
  scripting done d rest t = state at.Scripts One Subscription (drawn 16 [] 0 edges) (done ++ d ∷ rest) (length done) t []

  command-taken : (n : ℕ) (done : List Draft) (d : Draft) (rest : List Draft) (t more : CommandCounts) (b : ℕ) (w text : List ℕ) (c : Command) → are_word_bytes (b ∷ w) ≡ true → nat_eq b 35 ≡ false → IsVerb (b ∷ w)
      → command_of 1 ((b ∷ w) ++ 32 ∷ text) ≡ Ok c → count_rule t c (length ((b ∷ w) ++ 32 ∷ text)) 16 (length (done ++ d ∷ rest)) ≡ Ok more
      → line_rule (scripting done d rest t) n ((b ∷ w) ++ 32 ∷ text) ≡ Ok (scripting done (with_command c d) rest more)
  unfolding command_rule
  command-taken n done d rest t more b w text c bytes mark verb is counts =
      verb_line n One Subscription (drawn 16 [] 0 edges) (done ++ d ∷ rest) (length done) t b w text bytes mark verb
      ∙ rw (is, counts) (ap (λ (z : List Draft). Ok (state at.Scripts One Subscription (drawn 16 [] 0 edges) z (length done) more [])) (changed-middle done rest d (with_command c)))

  -- a draft of the same client with as many barriers, and counts, behind a text
  pub record LeadsInScript (done : List Draft) (d : Draft) (rest : List Draft) (t : CommandCounts) (text : List ℕ) (most controls publications : ℕ) : Type 0 where
    pub draft : Draft
    pub named : name_of draft ≡ name_of d
    pub barriers : draft.client.barriers ≡ d.client.barriers
    pub tally : CommandCounts
    pub few : AreFew tally controls publications
    pub leads : Leads (scripting done d rest t) text most (scripting done draft rest tally)

  pub one-subscription : (done : List Draft) (d : Draft) (rest : List Draft) (t : CommandCounts) (c p s : ℕ) → length (done ++ d ∷ rest) ≡ 64 → AreFew t c p → c < 256 → p ≤ 2048
      → LeadsInScript done d rest t (subscribe_line s) 100 (c + 1) p
  one-subscription done d rest t c p s clients few l m =
      let k = drawn-subscribing s in
      let f = k.first ∷ k.others in
      let line = codes "subscribe" ++ 32 ∷ constraints_text f in
      let size : length line < 100 = omega (arith, length-append line (10 ∷ []), ap length k.same, k.short) in
      let more = one-control t c p (length line) few (omega (arith, size)) in
      let counts : count_rule t (commands.Subscribe (canonical f)) (length line) 16 (length (done ++ d ∷ rest)) ≡ Ok (with_control t false (length line)) =
      control_counts t false (length line) 16 64 (within-limits (with_control t false (length line)) (c + 1) p more (omega (arith, l)) m) in
      record {
        draft = with_command (commands.Subscribe (canonical f)) d;
        named = refl;
        barriers = refl;
        tally = with_control t false (length line);
        few = more;
        leads = leads-same _ _ _ _ 100 k.same (leads-line _ _ line 100 (list_all-append _ (codes "subscribe ") (constraints_text f) refl (constraints_shown f k.named k.whole)) size
            (λ n. command-taken n done d rest t (with_control t false (length line)) 115 (codes "ubscribe") (constraints_text f) (commands.Subscribe (canonical f)) refl refl
            (record { named = refl; barrier = refl; script = refl; schedule = refl }) (subscribe-spelled 1 k.first k.others k.each k.few) counts));
      }

  pub one-publication : (done : List Draft) (d : Draft) (rest : List Draft) (t : CommandCounts) (c p s : ℕ) → length (done ++ d ∷ rest) ≡ 64 → AreFew t c p → c ≤ 256 → p < 2048
      → LeadsInScript done d rest t (publish_line s) 100 c (p + 1)
  one-publication done d rest t c p s clients few l m =
      let k = publishing s in
      let a = k.first ∷ k.others in
      let line = codes "publish" ++ 32 ∷ notice_text a in
      let size : length line < 100 = omega (arith, length-append line (10 ∷ []), ap length k.same, k.short) in
      let more = one-publish t c p (length line) few (omega (arith, size)) in
      let counts : count_rule t (commands.Publish (set_of is_name_less a)) (length line) 16 (length (done ++ d ∷ rest)) ≡ Ok (with_publish t (length line)) =
      publish_counts t (length line) 16 (length (done ++ d ∷ rest)) (subst (λ (z : ℕ). AreCounts (with_publish t (length line)) 16 z) (sym clients) (within-limits (with_publish t (length line)) c (p + 1) more l (omega (arith, m)))) in
      record {
        draft = with_command (commands.Publish (set_of is_name_less a)) d;
        named = refl;
        barriers = refl;
        tally = with_publish t (length line);
        few = more;
        leads = leads-same _ _ _ _ 100 k.same (leads-line _ _ line 100 (list_all-append _ (codes "publish ") (notice_text a) refl (notice_shown a k.names k.values)) size
            (λ n. command-taken n done d rest t (with_publish t (length line)) 112 (codes "ublish") (notice_text a) (commands.Publish (set_of is_name_less a)) refl refl
            (record { named = refl; barrier = refl; script = refl; schedule = refl }) (publish-spelled 1 k.first k.others k.each k.few k.once) counts));
      }
