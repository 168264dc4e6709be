-- Lemmas on what is read from a text.
use Rattle.std.proofs.Common.{◌≡◌, ℕ, ◌<◌, ◌≤◌, List, [], ◌∷◌, length, refl, sym, ap, ◌∙◌, subst, arith, false, eqb}
use Rattle.std.proofs.Common.{IsTrue, Some, None, Result, Ok, Err, IfOk, IfSome, IsSome, IsErrOf}
use Rattle.std.specs.List.{list_all}
use Rattle.std.proofs.lemmas.Bool.{cond-false, cond-true, lt-leb, ne_eqb}
use Rattle.store_model.specs.Paths.{Path, is_name, is_path, fits_field, field_limit}
use Rattle.store_model.specs.Grammar.{path_of, names_of}
use Rattle.path_keys.specs.declared.paths.PathFault.{PathFault}
use Rattle.path_keys.specs.declared.paths.PathFault.TheVariants.{Syntax, TooLong}
use Rattle.path_keys.specs.Reading.{parts_of, IsOfNames}
use Rattle.path_keys.proofs.NameBytes.{field_len-split, path-split, root_field}

path_of-names : (rest : List ℕ) → 1 ≤ length rest → path_of (47 ∷ rest) ≡ names_of (parts_of 47 rest)
unfolding path_of
path_of-names [] h = absurd (omega arith)
path_of-names (e ∷ more) h = refl

path_of-other : (c : ℕ) (rest : List ℕ) → (c ≡ 47 → ⊥) → path_of (c ∷ rest) ≡ None
unfolding path_of
path_of-other c [] h = cond-false (eqb c 47) _ _ (ne_eqb c 47 h)
path_of-other c (e ∷ more) h = cond-false (eqb c 47) _ _ (ne_eqb c 47 h)

path_of-nil : path_of [] ≡ None
unfolding path_of
path_of-nil = refl

path_of-root : path_of (47 ∷ []) ≡ Some []
unfolding path_of
path_of-root = refl

-- what reading a text gives
abbrev pub IsParsed : List ℕ → Result Path PathFault → Type 0
IsParsed text (Ok p) = (path_of text ≡ Some p) × IsTrue (is_path p) × (length text ≤ field_limit)
IsParsed text (Err Syntax) = path_of text ≡ None
IsParsed text (Err TooLong) = (p : Path) × (path_of text ≡ Some p) × (fits_field p ≡ false)
    × (field_limit < length text)

parsed_after_slash : (rest : List ℕ) (r : Result Path PathFault) → 1 ≤ length rest → IsOfNames 47 rest r
    → IsParsed (47 ∷ rest) r
parsed_after_slash rest (Ok p) h of = (
  path_of-names rest h ∙ cond-true (list_all is_name (parts_of 47 rest)) _ _ of.0 ∙ ap Some (sym of.2),
  subst (λ q. IsTrue (is_path q)) (sym of.2) (path-split 47 rest of.0 of.1),
  omega (arith, of.1),
)
parsed_after_slash rest (Err Syntax) h of = path_of-names rest h
    ∙ cond-false (list_all is_name (parts_of 47 rest)) _ _ of
parsed_after_slash rest (Err TooLong) h of = (
  parts_of 47 rest,
  path_of-names rest h ∙ cond-true (list_all is_name (parts_of 47 rest)) _ _ of.0,
  lt-leb _ 120 (omega (arith, field_len-split 47 rest, of.1)),
  omega (arith, of.1),
)

pub parsed_names : (text : List ℕ) (c : ℕ) (rest : List ℕ) (r : Result Path PathFault) → text ≡ c ∷ rest → c ≡ 47
    → 1 ≤ length rest → IsOfNames 47 rest r → IsParsed text r
parsed_names text c rest r e slash h of =
    subst (λ t. IsParsed t r) (sym (e ∙ ap (λ b. b ∷ rest) slash)) (parsed_after_slash rest r h of)

pub parsed_root : (text : List ℕ) (c : ℕ) (rest : List ℕ) (p : Path) → text ≡ c ∷ rest → c ≡ 47 → length rest < 1
    → p ≡ [] → IsParsed text (Ok p)
parsed_root text c [] p e slash h root =
    subst (λ t. IsParsed t (Ok p)) (sym (e ∙ ap (λ b. b ∷ []) slash))
    (subst (λ q. IsParsed (47 ∷ []) (Ok q)) (sym root) (path_of-root, root_field.path, omega arith))
parsed_root text c (d ∷ rest) p e slash h root = absurd (omega arith)

pub parsed_other : (text : List ℕ) (c : ℕ) (rest : List ℕ) → text ≡ c ∷ rest → (c ≡ 47 → ⊥) → IsParsed text (Err Syntax)
parsed_other text c rest e h = ap path_of e ∙ path_of-other c rest h

pub parsed_nothing : (text : List ℕ) → length text ≡ 0 → IsParsed text (Err Syntax)
parsed_nothing [] h = path_of-nil
parsed_nothing (c ∷ text) h = absurd (omega arith)

pub value_from : (text : List ℕ) (r : Result Path PathFault) → IsParsed text r → IfOk r (λ p. path_of text ≡ Some p)
value_from text (Ok p) h = h.0
value_from text (Err e) h = tt

pub valid_from : (text : List ℕ) (r : Result Path PathFault) → IsParsed text r → IfOk r (λ p. IsTrue (is_path p))
valid_from text (Ok p) h = h.1
valid_from text (Err e) h = tt

pub syntax_from : (text : List ℕ) (r : Result Path PathFault) → IsParsed text r
    → (IsErrOf r Syntax → path_of text ≡ None) × (path_of text ≡ None → IsErrOf r Syntax)
syntax_from text (Ok p) h = (λ e. cc, λ e. cc (sym h.0 ∙ e))
syntax_from text (Err Syntax) h = (λ _. h, λ _. refl)
syntax_from text (Err TooLong) h = (λ e. cc, λ e. cc (sym h.1 ∙ e))

pub too_long_from : (text : List ℕ) (r : Result Path PathFault) → IsParsed text r
    → (IsErrOf r TooLong → IsSome (path_of text) × (120 < length text))
    × (IsSome (path_of text) × (120 < length text) → IsErrOf r TooLong)
too_long_from text (Ok p) h = (λ e. cc, λ s. absurd (omega (arith, s.1, h.2)))
too_long_from text (Err Syntax) h = (λ e. cc, λ s. cc (subst IsSome h s.0))
too_long_from text (Err TooLong) h = (λ _. (subst IsSome (sym h.1) refl, h.3), λ _. refl)

pub too_long_field_from : (text : List ℕ) (r : Result Path PathFault) → IsParsed text r → IsErrOf r TooLong
    → IfSome (path_of text) (λ p. fits_field p ≡ false)
too_long_field_from text (Ok p) h e = cc
too_long_field_from text (Err Syntax) h e = cc
too_long_field_from text (Err TooLong) h e = subst (λ o. IfSome o (λ p. fits_field p ≡ false)) (sym h.1) h.2
