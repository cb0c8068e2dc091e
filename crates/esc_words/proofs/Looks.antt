-- What the words of uses look like to the parser, and which words look so.
use Rattle.std.proofs.Common.{◌≡◌, ◌∙◌, ◌⊎◌, ◌==◌, ℕ, Bool, cond, true, false, zero, suc, refl, sym}
use Rattle.std.proofs.Common.{ap, subst, inl, inr, arith, [], ◌∷◌, ◌++◌, Option, Some, None, codes}
use Rattle.std.specs.Option.{option_and_then}
use Rattle.std.specs.Str.{bytes_eq}
use Rattle.std.proofs.lemmas.Bool.{false≢true}
use Rattle.std.proofs.lemmas.Bool.Decides.{Decides-eqb}
use Rattle.std.proofs.lemmas.Slice.Eq.{bytes_eq-Decides}
use Rattle.clap.specs.Lexer.{long_of, long_of_rest, name_and_value, strip_byte}
use Rattle.clap.proofs.CutLemmas.{Lacks}
use Rattle.clap.proofs.LexerLemmas.{name_and_value-at, name_and_value-without}
use Rattle.esc_words.specs.declared.setting.Flag.{Flag}
use Rattle.esc_words.specs.declared.setting.Flag.TheVariants.{Log, Model}
use Rattle.esc_words.specs.declared.setting.Setting.{Setting}
use Rattle.esc_words.specs.declared.setting.Setting.TheVariants.{Depth, Rounds, Facts, Splits}
use Rattle.esc_words.specs.declared.setting.Setting.TheVariants.{Pivots}
use Rattle.esc_words.specs.Uses.{Text, dashed, flag_name, setting_name}

-- ---- words of uses

abbrev pub LooksLike : Text → Text → Option Text → Type 0
LooksLike word name value =
    (bytes_eq word (codes "--") ≡ false) × (long_of word ≡ Some (name, value))

pub flag_looks : (f : Flag) → LooksLike (dashed (flag_name f)) (flag_name f) None
flag_looks Log = (refl, refl)
flag_looks Model = (refl, refl)

pub setting_looks : (x : Setting) → LooksLike (dashed (setting_name x)) (setting_name x) None
setting_looks Depth = (refl, refl)
setting_looks Rounds = (refl, refl)
setting_looks Facts = (refl, refl)
setting_looks Splits = (refl, refl)
setting_looks Pivots = (refl, refl)

pub valued_looks : (x : Setting) (value : Text)
    → LooksLike (dashed (setting_name x) ++ (codes "=" ++ value)) (setting_name x) (Some value)
valued_looks Depth value = (refl, refl)
valued_looks Rounds value = (refl, refl)
valued_looks Facts value = (refl, refl)
valued_looks Splits value = (refl, refl)
valued_looks Pivots value = (refl, refl)

-- ---- the way back

pub dashes_by-bytes_eq : (word : Text) → bytes_eq word (codes "--") ≡ true → word ≡ codes "--"
dashes_by-bytes_eq word = (bytes_eq-Decides word (codes "--")).0

-- a list lacks the byte, or is cut at the first one
cut : (c : ℕ) (text : Text)
    → Lacks c text ⊎ ((front : Text) × (rest : Text) × (text ≡ front ++ c ∷ rest) × Lacks c front)
cut c [] = inl (λ i lt. absurd (omega arith))
cut c (b ∷ bs) = go (b == c) refl (cut c bs)
  where
    more : (xs : Text) → (b == c) ≡ false → Lacks c xs → Lacks c (b ∷ xs)
    more xs e lacks zero lt = λ same. absurd (false≢true (sym e ∙ (Decides-eqb b c).1 same))
    more xs e lacks (suc i) lt = lacks i (omega arith)

    go : (t : Bool) → (b == c) ≡ t
        → Lacks c bs ⊎ ((front : Text) × (rest : Text) × (bs ≡ front ++ c ∷ rest) × Lacks c front)
        → Lacks c (b ∷ bs)
        ⊎ ((front : Text) × (rest : Text) × (b ∷ bs ≡ front ++ c ∷ rest) × Lacks c front)
    go true e behind = inr (
      [],
      bs,
      ap (λ x. x ∷ bs) ((Decides-eqb b c).0 e),
      λ i lt. absurd (omega arith),
    )
    go false e (inl lacks) = inl (more bs e lacks)
    go false e (inr at) = inr (b ∷ at.0, at.1, ap (λ xs. b ∷ xs) at.2, more at.0 e at.3)

-- a name and the value behind it
abbrev pair : Text → Option Text → Text × Option Text
pair name value = (name, value)

abbrev pub ReadsBack : Text → Text → Option Text → Type 0
ReadsBack word name None = word ≡ dashed name
ReadsBack word name (Some value) = word ≡ dashed name ++ (codes "=" ++ value)

some_is : {A : Type 0} (x y : A) → Some x ≡ Some y → x ≡ y
some_is x y e = cc

behind_dashes : (text name : Text) (value : Option Text)
    → name_and_value text ≡ pair name value → ReadsBack (codes "--" ++ text) name value
behind_dashes text name value is = go (cut 61 text)
  where
    told : (n : Text) (v : Option Text) → pair n v ≡ pair name value → codes "--" ++ text ≡ dashed n
        → (v ≡ None) → ReadsBack (codes "--" ++ text) name value
    told n v e here none = subst (λ p. ReadsBack (codes "--" ++ text) p.0 p.1)
        (ap (λ u. (n, u)) (sym none) ∙ e) here

    given : (n t : Text) → pair n (Some t) ≡ pair name value
        → codes "--" ++ text ≡ dashed n ++ (codes "=" ++ t)
        → ReadsBack (codes "--" ++ text) name value
    given n t e here = subst (λ p. ReadsBack (codes "--" ++ text) p.0 p.1) e here

    go : Lacks 61 text
        ⊎ ((front : Text) × (rest : Text) × (text ≡ front ++ 61 ∷ rest) × Lacks 61 front)
        → ReadsBack (codes "--" ++ text) name value
    go (inl lacks) = told text None (sym (name_and_value-without text lacks) ∙ is) refl refl
    go (inr at) = given at.0 at.1
        (sym (ap name_and_value at.2 ∙ name_and_value-at at.0 at.1 at.3) ∙ is)
        (ap (λ t. codes "--" ++ t) at.2)

-- a word that looks so is written so
pub reads_back : (word name : Text) (value : Option Text) → long_of word ≡ Some (pair name value)
    → ReadsBack word name value
reads_back [] name value e = absurd (none_some e)
  where
    none_some : None ≡ Some (pair name value) → ⊥
    none_some h = cc
reads_back (a ∷ []) name value e = one (a == 45) e
  where
    one : (t : Bool) → option_and_then long_of_rest (option_and_then (strip_byte 45)
        (cond t (Some []) None)) ≡ Some (pair name value) → ReadsBack (a ∷ []) name value
    one true h = cc
    one false h = cc
reads_back (a ∷ b ∷ []) name value e = two (a == 45) (b == 45) e
  where
    two : (t u : Bool) → option_and_then long_of_rest (option_and_then (strip_byte 45)
        (cond t (Some (b ∷ [])) None)) ≡ Some (pair name value) → ReadsBack (a ∷ b ∷ []) name value
    two true u h = last (b == 45) h
      where
        last : (v : Bool) → option_and_then long_of_rest (cond v (Some []) None)
            ≡ Some (pair name value) → ReadsBack (a ∷ b ∷ []) name value
        last true k = cc
        last false k = cc
    two false u h = cc
reads_back (a ∷ b ∷ d ∷ rest) name value e = go (a == 45) refl (b == 45) refl e
  where
    go : (t : Bool) → (a == 45) ≡ t → (u : Bool) → (b == 45) ≡ u
        → option_and_then long_of_rest (option_and_then (strip_byte 45)
        (cond t (Some (b ∷ d ∷ rest)) None)) ≡ Some (pair name value)
        → ReadsBack (a ∷ b ∷ d ∷ rest) name value
    go false is_a u is_b h = cc
    go true is_a false is_b h = absurd (none_some (ap (λ v. option_and_then long_of_rest
        (cond v (Some (d ∷ rest)) None)) (sym is_b) ∙ h))
      where
        none_some : None ≡ Some (pair name value) → ⊥
        none_some k = cc
    go true is_a true is_b h =
        let parts = some_is _ _ (ap (λ v. option_and_then long_of_rest
        (cond v (Some (d ∷ rest)) None)) (sym is_b) ∙ h) in
        subst (λ w. ReadsBack w name value)
        (ap (λ x. x ∷ 45 ∷ d ∷ rest) (sym ((Decides-eqb a 45).0 is_a))
        ∙ ap (λ x. a ∷ x ∷ d ∷ rest) (sym ((Decides-eqb b 45).0 is_b)))
        (behind_dashes (d ∷ rest) name value parts)
