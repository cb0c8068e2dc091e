-- Labels that come behind others, with the names of those that are told.
use Rattle.std.proofs.Common.{◌≡◌, ℕ, ◌+◌, ◌<◌, Bool, true, false, List, [], ◌∷◌, ◌++◌, length}
use Rattle.std.proofs.Common.{get_or}
use Rattle.std.proofs.Common.{set, take, refl, ap, sym}
use Rattle.std.proofs.Common.{subst, ◌∙◌, append_assoc}
use Rattle.std.proofs.Math.Seq.{set-append_seam}
use Rattle.std.proofs.lemmas.List.{append-nil, take_more}
use Rattle.std.specs.List.{flat_map}
use Rattle.esc_term.specs.declared.term.Sym.{Sym}
use Rattle.esc_outcome.specs.Labels.{told_if}
use Rattle.esc_sharing.proofs.Lists.{flat_map-push}
use Rattle.esc_context.specs.JudgingInside.{Labels, told_names}
use Rattle.esc_context.specs.declared.labelled.Label.{Label}

told_if-append : (told : Bool) (name : Sym) (xs ys : List Sym)
    → told_if told name xs ++ ys ≡ told_if told name (xs ++ ys)
told_if-append true name xs ys = refl
told_if-append false name xs ys = refl

pub told_names-append : (ks ms : List Label) → told_names (ks ++ ms)
    ≡ told_names ks ++ told_names ms
told_names-append [] ms = refl
told_names-append (k ∷ ks) ms = ap (told_if k.told k.name) (told_names-append ks ms)
    ∙ sym (told_if-append k.told k.name (told_names ks) (told_names ms))

pub labels_none : (old : List Label) → Labels old old []
labels_none old = record { more = []; behind = sym (append-nil old); told = refl }

pub labels_both : (old now new : List Label) (xs ys : List Sym) → Labels old now xs
    → Labels now new ys → Labels old new (xs ++ ys)
labels_both old now new xs ys h k = record {
  more = h.more ++ k.more;
  behind = k.behind ∙ (ap (λ ls. ls ++ k.more) h.behind ∙ append_assoc old h.more k.more);
  told = told_names-append h.more k.more
      ∙ (ap (λ names. names ++ told_names k.more) h.told ∙ ap (λ names. xs ++ names) k.told);
}

-- a label was put behind the others, labels came behind it, and then it was told or not
pub labels_headed : (old now new : List Label) (name : Sym) (told : Bool) (names : List Sym)
    → Labels (old ++ record { name = name; told = false } ∷ []) now names
    → new ≡ set now (length old) (record { name = name; told = told })
    → Labels old new (told_if told name names)
labels_headed old now new name told names h is = record {
  more = record { name = name; told = told } ∷ h.more;
  behind = is ∙ (ap (λ ls. set ls (length old) (record { name = name; told = told }))
      (h.behind ∙ append_assoc old (record { name = name; told = false } ∷ []) h.more)
      ∙ set-append_seam old (record { name = name; told = false }) h.more
      (record { name = name; told = told }));
  told = ap (told_if told name) h.told;
}

-- no label came, and none is told
pub labels_same : (old : List Label) (names : List Sym) → names ≡ [] → Labels old old names
labels_same old names is = subst (Labels old old) (sym is) (labels_none old)

-- the labels of the first elements, and then those of one more
pub labels_more : {X : Type 0} (f : X → List Sym) (xs : List X) (i : ℕ) (x : X)
    (old now new : List Label) → i < length xs → x ≡ get_or xs i x
    → Labels old now (flat_map f (take i xs)) → Labels now new (f x)
    → Labels old new (flat_map f (take (i + 1) xs))
labels_more f xs i x old now new l at h k =
    subst (Labels old new)
    (sym (ap (flat_map f) (take_more xs i x l ∙ ap (λ y. take i xs ++ y ∷ []) (sym at))
    ∙ flat_map-push f (take i xs) x))
    (labels_both old now new (flat_map f (take i xs)) (f x) h k)
