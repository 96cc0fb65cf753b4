-- Defines the text of an explanation: one fact a line, each line ended by a newline.
use Rattle.std.specs.Prelude.{ℕ, Bool, true, false, List, [], ◌∷◌, ◌++◌, codes, Option, Some, None}
use Rattle.std.specs.List.{flat_map}
use Rattle.std.specs.Fmt.{decimal}
use Rattle.filter_values.specs.declared.value.Value.{Value}
use Rattle.filter_constraints.specs.Constraint.{ConstraintParts}
use Rattle.filter_types.specs.Notice.{Attribute}
use Rattle.filter_text.specs.FilterText.{constraints_text}
use Rattle.filter_text.specs.declared.id.Id.{Id}
use Rattle.filter_text.specs.NoticeText.{notice_text}
use Rattle.net_model.specs.Parts.{ClientParts}
use Rattle.net_model.specs.Nets.{client_name}
use Rattle.output_explain.specs.declared.answer.Explanation.{Explanation}
use Rattle.output_explain.specs.declared.facts.Miss.{Miss}
use Rattle.output_explain.specs.declared.facts.FilterFact.{FilterFact}
use Rattle.output_explain.specs.declared.facts.AdvertFact.{AdvertFact}
use Rattle.output_explain.specs.declared.stay.Stay.{Stay}
use Rattle.output_explain.specs.declared.verdict.Verdict.{Verdict}
use Rattle.output_explain.specs.declared.verdict.Verdict.TheVariants as verdicts
use Rattle.output_explain.specs.declared.verdict.Missing.TheVariants as missings
use Rattle.output_explain.specs.declared.verdict.Reason.TheVariants as reasons

-- a word, and the number of a command, where there is one
abbrev pub moment_text : List ℕ → Option ℕ → List ℕ
moment_text word None = []
moment_text word (Some moment) = word ++ decimal moment

-- since when and until when
abbrev pub since_until : Option ℕ → Option ℕ → List ℕ
since_until None None = codes " throughout the phase"
since_until since until = moment_text (codes " since command ") since ++ moment_text (codes " until command ") until

-- `in force throughout the phase`, `in force since command N`, `in force until command N`, or both
unfoldable pub stay_line : Stay → List ℕ
stay_line stay = codes "in force" ++ since_until stay.since stay.until ++ codes "\n"

-- what stands against a constraint: an attribute, or none
abbrev pub against : List ℕ → Option Value → List ℕ
against name None = codes " as there is no such attribute"
against name (Some v) = codes " by " ++ notice_text ((name, v) ∷ [])

-- `unsatisfied CONSTRAINT` and what stands against it
unfoldable pub unsatisfied_line : Miss → List ℕ
unsatisfied_line miss = codes "unsatisfied " ++ constraints_text (miss.constraint ∷ []) ++ against miss.constraint.name miss.value ++ codes "\n"

-- `matches`, or the first constraint that isn't satisfied
abbrev pub miss_line : Option Miss → List ℕ
miss_line None = codes "matches\n"
miss_line (Some miss) = unsatisfied_line miss

-- the lines of a filter
unfoldable pub filter_lines : FilterFact → List ℕ
filter_lines fact = codes "filter " ++ constraints_text fact.filter ++ codes "\n" ++ miss_line fact.miss ++ stay_line fact.stay

-- `does not allow ATTRIBUTE`
unfoldable pub denial_line : List ℕ → Value → List ℕ
denial_line name value = codes "does not allow " ++ notice_text ((name, value) ∷ []) ++ codes "\n"

-- `allows it`, or the first attribute that isn't allowed
abbrev pub denied_line : Option Attribute → List ℕ
denied_line None = codes "allows it\n"
denied_line (Some a) = denial_line a.0 a.1

abbrev pub here_line : Bool → List ℕ
here_line true = codes "in force at the publish\n"
here_line false = codes "not in force at the publish\n"

-- `advertisement ADVERTISEMENT`
unfoldable pub advert_line : List ConstraintParts → List ℕ
advert_line a = codes "advertisement " ++ constraints_text a ++ codes "\n"

-- the lines of an advertisement
unfoldable pub advert_lines : AdvertFact → List ℕ
advert_lines fact = advert_line fact.advert ++ denied_line fact.denied ++ here_line fact.here ++ stay_line fact.stay

-- the line of the verdict
abbrev pub verdict_line : Verdict → List ℕ
verdict_line verdicts.Owed = codes "owed: delivered exactly once in every run\n"
verdict_line (verdicts.May missings.Filter) = codes "may: no filter that matches is in force throughout the phase\n"
verdict_line (verdicts.May missings.Advert) = codes "may: no advertisement that allows it is in force throughout the phase\n"
verdict_line (verdicts.May missings.Both) =
    codes "may: no filter that matches and no advertisement that allows it is in force throughout the phase\n"
verdict_line (verdicts.Never reasons.Refused) = codes "never: refused, as no advertisement in force at the publish allows it\n"
verdict_line (verdicts.Never reasons.Unmatched) = codes "never: no filter that matches is in force in the phase\n"

-- ` SERVER`
abbrev pub server_text : ℕ → List ℕ
server_text server = codes " " ++ decimal server

-- `PUBLISHER ORDINAL`
unfoldable pub id_text : List ClientParts → Id → List ℕ
id_text clients id = client_name clients id.publisher ++ codes " " ++ decimal id.ordinal

-- `publication PUBLISHER ORDINAL NOTICE`
unfoldable pub publication_line : List ClientParts → Explanation → List ℕ
publication_line clients e = codes "publication " ++ id_text clients e.id ++ codes " " ++ notice_text e.notice ++ codes "\n"

-- `client NAME`
unfoldable pub client_line : List ClientParts → Explanation → List ℕ
client_line clients e = codes "client " ++ client_name clients e.client ++ codes "\n"

-- `phase N`
unfoldable pub phase_line : Explanation → List ℕ
phase_line e = codes "phase " ++ decimal e.phase ++ codes "\n"

-- `path SERVER ..`
unfoldable pub path_line : List ℕ → List ℕ
path_line path = codes "path" ++ flat_map server_text path ++ codes "\n"

-- what is explained: the publication, the client, the phase and the path
unfoldable pub head_lines : List ClientParts → Explanation → List ℕ
head_lines clients e = publication_line clients e ++ client_line clients e ++ phase_line e ++ path_line e.path.items

-- THE TEXT OF AN EXPLANATION
unfoldable pub explanation_text : List ClientParts → Explanation → List ℕ
explanation_text clients e =
    head_lines clients e ++ flat_map filter_lines e.filters.items ++ flat_map advert_lines e.adverts.items ++ verdict_line e.verdict
