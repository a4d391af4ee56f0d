-- The files that a map of the program holds, read and written by the bytes of a name.
use Rattle.std.proofs.Common.{◌≡◌, ℕ, ◌∙◌, sym, ap, Bool, true, false, cond, List, [], ◌∷◌, Option, Some, None, refl, String, string_bytes, Vec}
use Rattle.std.specs.Option.{option_map}
use Rattle.std.specs.Ordering.{nat_cmp, eq_by_cmp}
use Rattle.std.specs.Cmp.{eq_by_cmp_equiv}
use Rattle.std.specs.Cmp.Lexicographic.{slice_cmp, nat_list_cmp_total, texts_ties}
use Rattle.std.specs.String.{string_cmp}
use Rattle.std.specs.Str.{bytes_eq}
use Rattle.std.specs.Map.{lookup}
use Rattle.std.specs.BTreeMap.{BTreeMap, Updates, get_by_text, is_at}
use Rattle.std.specs.FinMap as map
use Rattle.std.specs.FinMap.{find, get-from_entries, get-insert, same_map, slice_cmp-IsAntisymmetric, nat_cmp-IsAntisymmetric}
use Rattle.std.specs.declared.alloc.Global.{Global}
use Rattle.std.proofs.lemmas.Map.Text.{btree_map_updates_text}
use Rattle.ci_io.specs.Maps.{byte_entries, files_of}

-- a name is found among the bytes of the entries where its entry is found
find-byte_entries : (name : List ℕ) (entries : List (String Global × Vec ℕ Global))
    → find (slice_cmp nat_cmp) name (byte_entries entries)
    ≡ option_map (λ file. file.items) (lookup (is_at (λ k. slice_cmp nat_cmp name (string_bytes k))) entries)
find-byte_entries name [] = refl
find-byte_entries name (e ∷ es) =
    elim (eq_by_cmp (slice_cmp nat_cmp) name (string_bytes e.0)) as (λ b. cond b (Some e.1.items)
    (find (slice_cmp nat_cmp) name (byte_entries es))
    ≡ option_map (λ file. file.items) (cond b (Some e.1)
    (lookup (is_at (λ k. slice_cmp nat_cmp name (string_bytes k))) es))) [
      | true ↦ refl
      | false ↦ find-byte_entries name es
    ]

-- the file of a name holds the bytes that the map holds there
pub get-files_of : (held : BTreeMap (String Global) (Vec ℕ Global)) (name : List ℕ)
    → map.get (files_of held) name ≡ option_map (λ file. file.items) (get_by_text held name)
get-files_of held name = get-from_entries nat_list_cmp_total (byte_entries held.entries) name ∙ find-byte_entries name held.entries

-- a name that the map has not got holds no file
pub get-files_of-absent : (held : BTreeMap (String Global) (Vec ℕ Global)) (name : List ℕ) → get_by_text held name ≡ None → map.get (files_of held) name ≡ None
get-files_of-absent held name absent = get-files_of held name ∙ ap (option_map (λ file. file.items)) absent

-- a name that the map has holds that file's bytes
pub get-files_of-found : (held : BTreeMap (String Global) (Vec ℕ Global)) (name : List ℕ) (file : Vec ℕ Global)
    → get_by_text held name ≡ Some file → map.get (files_of held) name ≡ Some file.items
get-files_of-found held name file found = get-files_of held name ∙ ap (option_map (λ f. f.items)) found

-- bytes are equal in either order
bytes_eq-sym : (xs ys : List ℕ) → bytes_eq xs ys ≡ eq_by_cmp (slice_cmp nat_cmp) ys xs
bytes_eq-sym xs ys = texts_ties xs ys ∙ (eq_by_cmp_equiv nat_list_cmp_total).symm xs ys

-- the bytes of one of two files are those of the file chosen
items-cond : (b : Bool) (file : Vec ℕ Global) (other : Option (Vec ℕ Global))
    → option_map (λ f. f.items) (cond b (Some file) other)
    ≡ cond b (Some file.items) (option_map (λ f. f.items) other)
items-cond true file other = refl
items-cond false file other = refl

-- to put a file into the map is to put its bytes under the bytes of its name
pub files_of-updates : (old new : BTreeMap (String Global) (Vec ℕ Global)) (name : String Global)
    (file : Vec ℕ Global) → Updates string_cmp old new name (Some file)
    → files_of new ≡ map.insert (files_of old) (string_bytes name) file.items
files_of-updates old new name file updates =
    same_map nat_list_cmp_total (slice_cmp-IsAntisymmetric nat_cmp-IsAntisymmetric) _ _ (λ q.
    get-files_of new q
    ∙ ap (option_map (λ f. f.items)) (btree_map_updates_text (string_bytes name) old new (Some file) updates q)
    ∙ items-cond (bytes_eq (string_bytes name) q) file (get_by_text old q)
    ∙ ap (λ b. cond b (Some file.items) (option_map (λ f. f.items) (get_by_text old q))) (bytes_eq-sym (string_bytes name) q)
    ∙ ap (cond (eq_by_cmp (slice_cmp nat_cmp) q (string_bytes name)) (Some file.items)) (sym (get-files_of old q))
    ∙ sym (get-insert nat_list_cmp_total (files_of old) (string_bytes name) file.items q))
