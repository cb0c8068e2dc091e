use Rattle.esc_words.proofs.Answering.{asks_by-found, asks_by-refusal}
use Rattle.esc_words.proofs.read.read_words.Goals as goal

pub returns-in-Ok : goal.returns-in-Ok
returns-in-Ok c = record {
  asks = asks_by-found _ _ c.in-Ok.ensures.rows c.options_in.result c.in-Ok.ensures.kinds
      c.options_in.ensures;
}

pub returns-in-Err : goal.returns-in-Err
returns-in-Err c = record {
  asks = asks_by-refusal _ c.in-Err.error c.stop_of.result c.in-Err.ensures.kinds c.stop_of.ensures;
}
