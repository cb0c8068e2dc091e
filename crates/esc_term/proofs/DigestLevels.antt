-- The digest of each form of term.
use Rattle.std.proofs.Common.{◌≡◌, ℕ, ℤ, List, [], ◌∷◌, map, ◌∙◌, refl}
use Rattle.std.specs.Int.{cast_unsigned}
use Rattle.std.specs.List.{fold}
use mir.Syntax.{w64}
use denote.Hole.Carrier.{roll}
use Rattle.esc_term.specs.declared.term.Head.{Head}
use Rattle.esc_term.specs.declared.term.Term.{Term}
use Rattle.esc_term.specs.declared.term.Term.TheVariants.{Num, Var, App}
use Rattle.esc_term.specs.declared.term.Term.TheOpen.{Term-F}
use Rattle.esc_term.specs.declared.term.Term.TheViews.{roll-Term}
use Rattle.esc_term.specs.declared.term.Term.TheFolds.{fold-Term, fold-roll-Term}
use Rattle.esc_term.specs.Digest.{mixed, head_digest, digest, digest_step, term_mixed}

pub fold-map : {X Y S : Type 0} (g : S → Y → S) (f : X → Y) (start : S) (xs : List X)
    → fold g start (map f xs) ≡ fold (λ s x. g s (f x)) start xs
fold-map g f start [] = refl
fold-map g f start (x ∷ xs) = fold-map g f (g start (f x)) xs

pub digest-Num : (n : ℤ) → digest (Num n) ≡ mixed 0 (cast_unsigned w64 n)
unfolding digest roll-Term roll
digest-Num n = fold-roll-Term ℕ digest_step (Term-F.Num n)

pub digest-Var : (k : ℕ) → digest (Var k) ≡ mixed 1 k
unfolding digest roll-Term roll
digest-Var k = fold-roll-Term ℕ digest_step (Term-F.Var k)

pub digest-App : (head : Head) (args : List Term) → digest (App head args)
    ≡ fold term_mixed (head_digest head) args
unfolding digest roll-Term roll
digest-App head args =
    fold-roll-Term ℕ digest_step (Term-F.App head args)
    ∙ fold-map mixed (fold-Term ℕ digest_step) (head_digest head) args

pub ruleset levels = (digest-Num, digest-Var, digest-App)
