-- The text of each form of term.
use Rattle.std.proofs.Common.{◌≡◌, ℕ, ℤ, List, [], ◌∷◌, ◌++◌, map, length, nat_eq, if◌then◌else◌}
use Rattle.std.proofs.Common.{◌∙◌, ap, refl}
use Rattle.std.proofs.lemmas.List.{length-map}
use Rattle.std.specs.Fmt.{signed_decimal}
use Rattle.std.proofs.lemmas.List.Folds.{flat_map-map}
use denote.Hole.Carrier.{roll}
use Rattle.esc_term.specs.declared.term.Head.{Head}
use Rattle.esc_term.specs.declared.term.Term.{Term}
use Rattle.esc_term.specs.declared.term.Term.TheVariants.{Num, Var, App}
use Rattle.esc_term.specs.declared.term.Term.TheOpen.{Term-F}
use Rattle.esc_term.specs.declared.term.Term.TheViews.{roll-Term}
use Rattle.esc_term.specs.declared.term.Term.TheFolds.{fold-roll-Term}
use Rattle.esc_print.specs.Terms.{applied_text, blank, closing, head_text, opening, spaced}
use Rattle.esc_print.specs.Terms.{term_step, term_text, variable_text}

-- arguments by their texts, or by what gives their texts
applied-map : {X : Type 0} (head : List ℕ) (text : X → List ℕ) (args : List X)
    → applied_text head (λ arg. arg) (map text args) ≡ applied_text head text args
unfolding spaced
applied-map head text args =
    ap (λ n. if nat_eq n 0 then head else opening
    ++ (head ++ (spaced (λ arg. arg) (map text args) ++ closing))) (length-map args text)
    ∙ ap (λ all. if nat_eq (length args) 0 then head else opening ++ (head ++ (all ++ closing)))
    (flat_map-map (λ t. blank ++ t) text args)

pub term_text-Num : (names : List (List ℕ)) (d : ℕ) (n : ℤ)
    → term_text names d (Num n) ≡ signed_decimal n
unfolding term_text roll-Term roll
term_text-Num names d n = fold-roll-Term (List ℕ) (term_step names d) (Term-F.Num n)

pub term_text-Var : (names : List (List ℕ)) (d k : ℕ)
    → term_text names d (Var k) ≡ variable_text d k
unfolding term_text roll-Term roll
term_text-Var names d k = fold-roll-Term (List ℕ) (term_step names d) (Term-F.Var k)

pub term_text-App : (names : List (List ℕ)) (d : ℕ) (head : Head) (args : List Term)
    → term_text names d (App head args) ≡ applied_text (head_text names head) (term_text names d)
    args
unfolding term_text roll-Term roll
term_text-App names d head args = fold-roll-Term (List ℕ) (term_step names d) (Term-F.App head args)
    ∙ applied-map (head_text names head) (term_text names d) args

pub ruleset term_levels = (term_text-Num, term_text-Var, term_text-App)
