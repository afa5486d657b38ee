-- The encodings that the text of a `meta` element declares.
use Rattle.std.proofs.Common.{◌≡◌, [], ◌∷◌, map, refl, codes, Some, None}
use Rattle.h5_tables.specs.MetaEncoding.{meta_encoding}

named : map meta_encoding (
    codes "cHarSet=utf8" ∷
    codes "charset \t=\tutf8" ∷
    codes "charset='utf8'" ∷
    codes "charset=utf8;foo" ∷
    codes "text/html; charset charset=utf8" ∷
    codes "charset=;" ∷ [])
    ≡ Some (codes "utf8") ∷ Some (codes "utf8") ∷ Some (codes "utf8") ∷ Some (codes "utf8") ∷ Some (codes "utf8") ∷ Some [] ∷ []
unfolding meta_encoding
named = refl

unnamed : map meta_encoding (
    codes "foobar" ∷
    codes "charset utf8" ∷
    codes "charset=\"utf8" ∷
    codes "text/html; charset='" ∷
    codes "charset=" ∷ [])
    ≡ None ∷ None ∷ None ∷ None ∷ None ∷ []
unfolding meta_encoding
unnamed = refl
