use Rattle.esc_words.proofs.Answering.{asks_for_one}
use Rattle.esc_words.proofs.laws.words_laws.Goals as goal

pub returns : goal.returns
returns c = record { one = asks_for_one }
