-- Whether the canonical text of a net is within the limits of a document: what it spells with single spaces may be longer than what was read.
use Rattle.std.specs.Prelude.{ℕ, ◌≤◌, true, false, List, [], ◌∷◌, length}
use Rattle.std.specs.List.{flat_map}
use Rattle.filter_text.specs.declared.command.Command.{Command}
use Rattle.filter_text.specs.declared.command.Command.TheVariants as commands
use Rattle.document_format.specs.CommandText.{command_text}
use Rattle.net_model.specs.Parts.{NetParts}
use Rattle.net_model.specs.Nets.{first_tree}
use Rattle.document_reader.specs.Tally.{CommandCounts, no_counts, with_control, with_publish, control_product, notice_product}
use Rattle.document_format.specs.DocumentText.{document_text}

-- the counts with one command more, on its canonical line
abbrev pub counted : CommandCounts → Command → CommandCounts
counted counts (commands.Subscribe f) = with_control counts false (length (command_text (commands.Subscribe f)))
counted counts (commands.Unsubscribe f) = with_control counts true (length (command_text (commands.Unsubscribe f)))
counted counts (commands.Advertise a) = with_control counts false (length (command_text (commands.Advertise a)))
counted counts (commands.Unadvertise a) = with_control counts true (length (command_text (commands.Unadvertise a)))
counted counts (commands.Publish n) = with_publish counts (length (command_text (commands.Publish n)))

-- the counts with these commands more
abbrev pub counts_after : CommandCounts → List (ℕ × Command) → CommandCounts
counts_after counts [] = counts
counts_after counts (step ∷ steps) = counts_after (counted counts step.1) steps

-- the counts of all commands of a net, on their canonical lines
abbrev pub counts_of : NetParts → CommandCounts
counts_of net = counts_after no_counts (flat_map (λ client. client.script) net.clients)

-- the text has at most the bytes of a document, and the products over its lines are within theirs
pub record FitsDocument (net : NetParts) : Type 0 where
  pub bytes : length (document_text net) ≤ 4194304
  pub controls : control_product (counts_of net) (first_tree net.trees).count ≤ 2147483648
  pub notices : notice_product (counts_of net) (length net.clients) ≤ 268435456
