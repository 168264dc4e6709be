-- The keys of what was found, one entry after another.
use Rattle.std.proofs.Common.{◌≡◌, ℕ, suc, ◌+◌, ◌<◌, List, [], ◌∷◌, ◌++◌, length, take, drop, get_or, sym, ap, ap₂}
use Rattle.std.proofs.Common.{drop-cons, subst, ◌∙◌, arith}
use Rattle.std.specs.List.{AllByRecursion, flat_map}
use Rattle.std.proofs.lemmas.List.{append-nil, take-append-drop, take_more}
use Rattle.std.proofs.lemmas.List.Concat.{flat_map-append}
use Rattle.std.proofs.lemmas.List.Elements.{All-from_recursion}
use Rattle.store_model.specs.declared.version.Version.{Version}
use Rattle.host_folders.specs.declared.found.Found.{Found}
use Rattle.image_create.specs.FoundKeys.{HasKeys, found_keys, keys_found}

-- the keys of what was found before an entry, its own, and those of what was found behind it
pub found_at : (version : Version) (found : List Found) (at : ℕ) (entry : Found) → at < length found
    → entry ≡ get_or found at entry → keys_found version found
    ≡ keys_found version (take at found) ++ (found_keys version entry ++ keys_found version (drop (at + 1) found))
unfolding keys_found
found_at version found at entry within is =
    let next : at + 1 ≡ suc at = omega arith in
    let rest : drop at found ≡ entry ∷ drop (at + 1) found =
    drop-cons found at entry within
    ∙ ap₂ (λ (f : Found) n. f ∷ drop n found) (sym is) (sym next) in
    ap (flat_map (found_keys version)) (sym (take-append-drop at found))
    ∙ flat_map-append (found_keys version) (take at found) (drop at found)
    ∙ ap (λ (fs : List Found). flat_map (found_keys version) (take at found) ++ flat_map (found_keys version) fs) rest

pub found_more : (version : Version) (found : List Found) (at : ℕ) (entry : Found) → at < length found
    → entry ≡ get_or found at entry
    → keys_found version (take (at + 1) found) ≡ keys_found version (take at found) ++ found_keys version entry
unfolding keys_found
found_more version found at entry within is =
    ap (flat_map (found_keys version)) (take_more found at entry within
    ∙ ap (λ (f : Found). take at found ++ f ∷ []) (sym is))
    ∙ flat_map-append (found_keys version) (take at found) (entry ∷ [])
    ∙ ap (λ ks. flat_map (found_keys version) (take at found) ++ ks) (append-nil (found_keys version entry))

pub has_keys_at : (found : List Found) (at : ℕ) (entry : Found) → AllByRecursion HasKeys found → at < length found
    → entry ≡ get_or found at entry → HasKeys entry
has_keys_at found at entry have within is =
    subst HasKeys (sym is) (All-from_recursion HasKeys found have at entry within)
