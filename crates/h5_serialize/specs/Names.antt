-- Elements with special serializations (HTML standard, section 13.1.2, "Elements", and section 13.3, "Serializing HTML fragments").
use Rattle.std.specs.Prelude.{ℕ, Bool, ◌&&◌, ◌||◌, List, codes}
use Rattle.h5_names.specs.AttributeText.{is_same_text}
use Rattle.h5_names.specs.declared.qualified.QualName.{QualName}
use Rattle.h5_tables.specs.TagSets.{is_one_of, raw_names, void_names}

-- an HTML element
abbrev pub is_html : QualName → Bool
is_html name = is_same_text name.ns (codes "http://www.w3.org/1999/xhtml")

-- a void element
abbrev pub is_void : QualName → Bool
is_void name = is_html name && is_one_of void_names name.local

-- the local name of an HTML element whose text is written unescaped; `noscript` only with scripting
abbrev pub is_raw_name : (scripting_enabled : Bool) → List ℕ → Bool
is_raw_name scripting_enabled local =
    is_one_of raw_names local || (scripting_enabled && is_same_text local (codes "noscript"))
