-- What the kinds of refusals mean, in the words of their user.
use Rattle.std.specs.Prelude.{ℕ, List, codes}
use Rattle.document_reader.specs.declared.fault.Fault.{Fault}
use Rattle.document_reader.specs.declared.fault.Fault.TheVariants as faults
use Rattle.output_patterns.specs.declared.fault.PatternKind.{PatternKind}
use Rattle.output_patterns.specs.declared.fault.PatternKind.TheVariants as patterns
use Rattle.output_explain.specs.declared.fault.ExplainFault.TheVariants as explains
use Rattle.output_explain.specs.Asked.{fault_means}
use Rattle.program_sequential.specs.declared.unknown.Unknown.{Unknown}
use Rattle.program_sequential.specs.declared.unknown.Unknown.TheVariants as unknowns

-- of values and operands that are beyond their limits, in a document and in a pattern
abbrev pub value_means : List ℕ
value_means =
    codes "an int is from -9223372036854775808 to 9223372036854775807, a time at most 18446744073709551615, a str at most 1024 bytes"

abbrev pub operand_means : List ℕ
operand_means = codes "prefix, suffix and contains have an operand of at least 1 byte"

-- of a document: for a rule with a bound, the bound that is passed
abbrev pub kind_means : Fault → List ℕ
kind_means faults.TooLong = codes "the document has more than 4194304 bytes, or what is audited more than 268435456"
kind_means faults.Ended = codes "the document ends before its lines `siena`, `semantics` and `servers`"
kind_means faults.Header = codes "the first line is `siena 1` or `siena 2`"
kind_means faults.Order = codes "such a line doesn't belong here; the order is siena, semantics, servers, edge, phase, client, script, schedule"
kind_means faults.Words = codes "the words behind the first are not those of such a line"
kind_means faults.Range = codes "servers are 1 to 64, a server is one of these, `take` names neighbours, and phases rise from 1 to 4095"
kind_means faults.Apart = codes "the edges of this tree don't join all servers"
kind_means faults.Twice = codes "an earlier edge of this tree joins these two servers"
kind_means faults.Loop = codes "earlier edges of this tree lead from one of these servers to the other, or the two are equal"
kind_means faults.Name = codes "this client is given twice, has a script already, or is none of the document's"
kind_means faults.Count = codes "more than 1024 clients, 4095 barriers of a script, 16 constraints of a filter, 64 of an advertisement, or 64 attributes"
kind_means faults.Syntax = codes "the command is not of its form, as `subscribe NAME KIND OPERATOR VALUE; ..` or `publish NAME KIND VALUE; ..`"
kind_means faults.Value = value_means
kind_means faults.Operand = operand_means
kind_means faults.Repeat = codes "a notification has one name twice"
kind_means faults.Commands = codes "more than 4096 commands of subscriptions and advertisements"
kind_means faults.Publications = codes "more than 100000 publish commands"
kind_means faults.MuchControl = codes "(1 + unsubscribe and unadvertise commands) * bytes of control lines * servers is more than 2147483648"
kind_means faults.MuchNotice = codes "bytes of publish lines * clients is more than 268435456"
kind_means faults.BadTurn = codes "this turn is not permitted when it comes"

-- of the patterns behind a document
abbrev pub pattern_means : PatternKind → List ℕ
pattern_means patterns.Short = codes "a pattern has 2 to 8 steps, and this one has fewer than 2"
pattern_means patterns.Order = codes "behind `patterns` stand lines `pattern CLIENT LABEL`, and behind each the steps of this pattern"
pattern_means patterns.Words = codes "behind `pattern` stand two names, of a client and of the pattern"
pattern_means patterns.Name = codes "no client has this name, or it has a pattern of this label"
pattern_means patterns.Count = codes "more than 1024 patterns, 8 steps of a pattern, or 16 constraints of a step"
pattern_means patterns.Syntax = codes "the step is not of the form of a subscription, as `step NAME KIND OPERATOR VALUE; ..`"
pattern_means patterns.Value = value_means
pattern_means patterns.Operand = operand_means

-- of what a question names and isn't there
abbrev pub unknown_means : Unknown → List ℕ
unknown_means unknowns.Client = fault_means explains.NoClient
unknown_means unknowns.Publisher = fault_means explains.NoPublisher
unknown_means unknowns.Number = fault_means explains.NoPublication
