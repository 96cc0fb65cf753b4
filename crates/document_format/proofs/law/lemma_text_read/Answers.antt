use Rattle.document_format.proofs.SameText.{one_text, read_again, text_again}
use Rattle.document_format.proofs.law.lemma_text_read.Goals as goal

pub returns-clause-read : goal.returns-clause-read
returns-clause-read c = read_again

pub returns-clause-one : goal.returns-clause-one
returns-clause-one c = one_text

pub returns-clause-again : goal.returns-clause-again
returns-clause-again c = text_again
