-- How a run comes further.
use Rattle.std.proofs.Common.{◌≡◌, ℕ, Bool, false, IsTrue, List, [], ◌∷◌, ◌++◌, append-nil}
use Rattle.std.proofs.Common.{Option, refl, subst}
use Rattle.std.specs.Io.KnownBytes.{IsAtEnd}
use Rattle.esc_io.specs.Taking.{Takes}
use Rattle.esc_io.proofs.TakingLemmas.{Takes-start, Takes-then}
use Rattle.esc_names.specs.Numbering.{first_names}
use Rattle.esc_names.specs.Rows.{HasDistinctRows}
use Rattle.esc_options.specs.declared.options.Limits.{Limits}
use Rattle.esc_read.specs.Reading.{Extends}
use Rattle.esc_sexp.specs.declared.sexp.Sexp.{Sexp}
use Rattle.esc_answers.specs.State.{State, first_state}
use Rattle.esc_top.specs.Answers.{AnswersExpression}
use Rattle.esc_top.specs.Progress.{Progress}
use Rattle.esc_top.specs.Told.{Told}
use Rattle.esc_top.proofs.FirstNames.{first_distinct}
use Rattle.esc_top.proofs.ToldLemmas.{AnswersAll-push}

-- nothing was read
abbrev pub progress_start : (limits : Limits) (left : Option (List ℕ)) → Progress limits left left
progress_start limits left = record {
  taken = [];
  ended = false;
  expressions = [];
  told = [];
  names = first_names;
  state = first_state;
  consumed = Takes-start left;
  at_end = λ told. absurd cc;
  distinct = first_distinct;
  answers = (refl, refl);
}

-- an expression is answered
abbrev pub progress_told : {left rest : Option (List ℕ)} (limits : Limits)
    (p : Progress limits left rest) (e : Sexp) (told : Told) (now : State)
    → Extends p.names told.names → HasDistinctRows told.names → told.before ≡ p.state
    → AnswersExpression limits told.names p.state e told.report now → Progress limits left rest
progress_told limits p e told now names distinct here answers = record {
  taken = p.taken;
  ended = p.ended;
  expressions = p.expressions ++ e ∷ [];
  told = p.told ++ told ∷ [];
  names = told.names;
  state = now;
  consumed = p.consumed;
  at_end = p.at_end;
  distinct = distinct;
  answers = AnswersAll-push limits first_names first_state p.expressions p.told p.names p.state e
      told now p.answers names here answers;
}

-- bytes are taken
abbrev pub progress_fed : {limits : Limits} {left mid rest : Option (List ℕ)}
    (p : Progress limits left mid) (piece : List ℕ) (ended : Bool) → Takes mid rest piece
    → (IsTrue ended → IsAtEnd rest) → Progress limits left rest
progress_fed p piece ended takes end = record {
  taken = p.taken ++ piece;
  ended = ended;
  expressions = p.expressions;
  told = p.told;
  names = p.names;
  state = p.state;
  consumed = Takes-then p.consumed takes;
  at_end = end;
  distinct = p.distinct;
  answers = p.answers;
}

pub takes_nothing : {left mid rest : Option (List ℕ)} {taken : List ℕ} → Takes left mid taken
    → Takes mid rest [] → Takes left rest taken
takes_nothing {left} {mid} {rest} {taken} p q = subst (λ (l : List ℕ). Takes left rest l)
    (append-nil taken) (Takes-then p q)

-- a read brings no byte
abbrev pub progress_unfed : {limits : Limits} {left mid rest : Option (List ℕ)}
    (p : Progress limits left mid) (ended : Bool)
    → Takes mid rest [] → (IsTrue ended → IsAtEnd rest) → Progress limits left rest
progress_unfed p ended takes end = record {
  taken = p.taken;
  ended = ended;
  expressions = p.expressions;
  told = p.told;
  names = p.names;
  state = p.state;
  consumed = takes_nothing p.consumed takes;
  at_end = end;
  distinct = p.distinct;
  answers = p.answers;
}
