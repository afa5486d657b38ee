-- Names that are adjusted inside SVG and MathML.
use Rattle.std.proofs.Common.{◌≡◌, ℕ, List, [], ◌∷◌, map, refl, codes, Some, None}
use Rattle.h5_names.specs.AttributeText.{AttributeText}
use Rattle.h5_names.specs.declared.qualified.QualName.{QualName}
use Rattle.h5_tables.specs.AdjustedNames.{adjusted_svg_tag, foreign_attributes, mathml_attributes, renamed, svg_attributes, svg_tags}

svg_tag_names : map adjusted_svg_tag (codes "clippath" ∷ codes "path" ∷ []) ≡ codes "clipPath" ∷ codes "path" ∷ []
unfolding svg_tags
svg_tag_names = refl

abbrev valued : QualName → AttributeText
valued name = record { name = name; value = codes "1" }

-- an attribute of a token
abbrev read : List ℕ → AttributeText
read local = valued (record { prefix = None; ns = []; local = local })

svg_attribute : renamed svg_attributes (read (codes "viewbox")) ≡ read (codes "viewBox")
unfolding svg_attributes
svg_attribute = refl

mathml_attribute : renamed mathml_attributes (read (codes "definitionurl")) ≡ read (codes "definitionURL")
unfolding mathml_attributes
mathml_attribute = refl

xlink_attribute : renamed foreign_attributes (read (codes "xlink:href"))
    ≡ valued (record { prefix = Some (codes "xlink"); ns = codes "http://www.w3.org/1999/xlink"; local = codes "href" })
unfolding foreign_attributes
xlink_attribute = refl

xmlns_attribute : renamed foreign_attributes (read (codes "xmlns"))
    ≡ valued (record { prefix = Some []; ns = codes "http://www.w3.org/2000/xmlns/"; local = codes "xmlns" })
unfolding foreign_attributes
xmlns_attribute = refl
