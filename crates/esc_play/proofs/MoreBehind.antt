-- What came behind a list, and behind that.
use Rattle.std.proofs.Common.{◌≡◌, List, [], ◌++◌, append-nil, append_assoc, ap, sym, ◌∙◌}
use Rattle.esc_play.specs.Play.{HasMore}

pub more_none : {X : Type 0} (xs ys : List X) → ys ≡ xs → HasMore xs ys
more_none xs ys same = ([], same ∙ sym (append-nil xs))

pub more_both : {X : Type 0} (xs ys zs : List X) → HasMore xs ys → HasMore ys zs → HasMore xs zs
more_both xs ys zs a b =
    (a.0 ++ b.0, b.1 ∙ (ap (λ l. l ++ b.0) a.1 ∙ append_assoc xs a.0 b.0))
