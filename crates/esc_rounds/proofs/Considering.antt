-- When a draw is listed.
use Rattle.std.proofs.Common.{◌≡◌, Bool, true, false, not, ◌&&◌, if◌then◌else◌, ℕ, List, refl, ap}
use Rattle.std.proofs.Common.{sym, ◌∙◌, true≢false}
use Rattle.esc_rounds.specs.Due.{is_within}
use Rattle.esc_rounds.specs.KeyInside.{key_of}
use Rattle.esc_rounds.specs.ListingInside.{Listed, has_key, pushed, with_due}
use Rattle.esc_rounds.specs.Standing.{Standing}
use Rattle.esc_rounds.specs.declared.draw.Draw.{Draw}
use Rattle.esc_rounds.specs.declared.key.Key.{Key}

abbrev pub PairOf : List Key → List Draw → Listed
PairOf keys list = record { keys = keys; list = list }

pub listed_pair : (j k : List Key) (ds es : List Draw) → j ≡ k → ds ≡ es
    → PairOf j ds ≡ PairOf k es
listed_pair j k ds es e f = ap (λ x. PairOf x ds) e ∙ ap (PairOf k) f

pub not_false : (b : Bool) → not b ≡ false → b ≡ true
not_false true e = refl
not_false false e = absurd (true≢false e)

module _ (s : Standing) (live : List Key) (limit : ℕ) (now : Listed) (d : Draw) where
  abbrev by_tests : Bool → Bool → Bool → Listed
  by_tests within in_live in_keys =
      if within && not in_live && not in_keys then pushed s now d else now

  with_due-is : (a b c : Bool) → is_within s limit d ≡ a → has_key live (key_of s.graph d) ≡ b
      → has_key now.keys (key_of s.graph d) ≡ c → with_due s live limit now d ≡ by_tests a b c
  unfolding with_due
  with_due-is a b c within in_live in_keys = rw (within, in_live, in_keys) refl

  pub due_far : is_within s limit d ≡ false → now ≡ with_due s live limit now d
  due_far within = sym (with_due-is false _ _ within refl refl)

  pub due_live : has_key live (key_of s.graph d) ≡ true → now ≡ with_due s live limit now d
  due_live in_live = go (is_within s limit d) refl
    where
      go : (a : Bool) → is_within s limit d ≡ a → now ≡ with_due s live limit now d
      go true within = sym (with_due-is true true _ within in_live refl)
      go false within = due_far within

  pub due_listed : has_key now.keys (key_of s.graph d) ≡ true → now ≡ with_due s live limit now d
  due_listed in_keys = go (is_within s limit d) refl (has_key live (key_of s.graph d)) refl
    where
      go : (a : Bool) → is_within s limit d ≡ a → (b : Bool)
          → has_key live (key_of s.graph d) ≡ b → now ≡ with_due s live limit now d
      go true within true in_live = due_live in_live
      go true within false in_live = sym (with_due-is true false true within in_live in_keys)
      go false within b in_live = due_far within

  pub due_new : is_within s limit d ≡ true → has_key live (key_of s.graph d) ≡ false
      → has_key now.keys (key_of s.graph d) ≡ false → pushed s now d ≡ with_due s live limit now d
  due_new within in_live in_keys = sym (with_due-is true false false within in_live in_keys)
