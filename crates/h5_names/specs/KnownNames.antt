-- The names that HTML knows.
use Rattle.std.specs.Prelude.{ℕ, ◌+◌, ◌-◌, ◌*◌, ◌/◌, ◌%◌, ◌==◌, ◌||◌, nat_lt, bit_or, List, [], ◌∷◌, if◌then◌else◌, bytes_eq, get_or, length, slice_index}
use denote.Enum.Declared.{tag_of}
use Rattle.h5_names.specs.contracts.known_name.KnownName.{the_type}
use Rattle.h5_names.specs.declared.known_name.TheConstants.{TEXTS}
use Rattle.h5_names.specs.declared.known_name.KnownName.{KnownName}
use Rattle.h5_names.specs.declared.known_name.KnownName.TheVariants.{
  A,
  Action,
  Address,
  Alt,
  AltGlyph,
  AltGlyphLowercase,
  AltGlyphDef,
  AltGlyphDefLowercase,
  AltGlyphItem,
  AltGlyphItemLowercase,
  AnimateColor,
  AnimateColorLowercase,
  AnimateMotion,
  AnimateMotionLowercase,
  AnimateTransform,
  AnimateTransformLowercase,
  AnnotationXml,
  Applet,
  Area,
  Article,
  Aside,
  B,
  Base,
  Basefont,
  Bgsound,
  Big,
  Blockquote,
  Body,
  Br,
  Button,
  Caption,
  Center,
  Charset,
  Class,
  ClipPath,
  ClipPathLowercase,
  Code,
  Col,
  Colgroup,
  Color,
  Content,
  Dd,
  DefinitionUrl,
  DefinitionUrlLowercase,
  Desc,
  Details,
  Dialog,
  Dir,
  Div,
  Dl,
  Dt,
  Em,
  Embed,
  Encoding,
  Face,
  FeBlend,
  FeBlendLowercase,
  FeColorMatrix,
  FeColorMatrixLowercase,
  FeComponentTransfer,
  FeComponentTransferLowercase,
  FeComposite,
  FeCompositeLowercase,
  FeConvolveMatrix,
  FeConvolveMatrixLowercase,
  FeDiffuseLighting,
  FeDiffuseLightingLowercase,
  FeDisplacementMap,
  FeDisplacementMapLowercase,
  FeDistantLight,
  FeDistantLightLowercase,
  FeDropShadow,
  FeDropShadowLowercase,
  FeFlood,
  FeFloodLowercase,
  FeFuncA,
  FeFuncALowercase,
  FeFuncB,
  FeFuncBLowercase,
  FeFuncG,
  FeFuncGLowercase,
  FeFuncR,
  FeFuncRLowercase,
  FeGaussianBlur,
  FeGaussianBlurLowercase,
  FeImage,
  FeImageLowercase,
  FeMerge,
  FeMergeLowercase,
  FeMergeNode,
  FeMergeNodeLowercase,
  FeMorphology,
  FeMorphologyLowercase,
  FeOffset,
  FeOffsetLowercase,
  FePointLight,
  FePointLightLowercase,
  FeSpecularLighting,
  FeSpecularLightingLowercase,
  FeSpotLight,
  FeSpotLightLowercase,
  FeTile,
  FeTileLowercase,
  FeTurbulence,
  FeTurbulenceLowercase,
  Fieldset,
  Figcaption,
  Figure,
  Font,
  Footer,
  ForeignObject,
  ForeignObjectLowercase,
  Form,
  Frame,
  Frameset,
  GlyphRef,
  GlyphRefLowercase,
  H1,
  H2,
  H3,
  H4,
  H5,
  H6,
  Head,
  Header,
  Height,
  Hgroup,
  Hr,
  Href,
  Html,
  HttpEquiv,
  I,
  Id,
  Iframe,
  Image,
  Img,
  Input,
  Isindex,
  Keygen,
  Lang,
  Li,
  LinearGradient,
  LinearGradientLowercase,
  Link,
  Listing,
  Main,
  Malignmark,
  Marquee,
  Math,
  Menu,
  Meta,
  Method,
  Mglyph,
  Mi,
  Mn,
  Mo,
  Ms,
  Mtext,
  Name,
  Nav,
  Nobr,
  Noembed,
  Noframes,
  Noscript,
  Object,
  Ol,
  Optgroup,
  Option,
  P,
  Param,
  Plaintext,
  Pre,
  RadialGradient,
  RadialGradientLowercase,
  Rb,
  Rel,
  Rp,
  Rt,
  Rtc,
  Ruby,
  S,
  Script,
  Search,
  Section,
  Select,
  Shadowrootmode,
  Size,
  Small,
  Source,
  Span,
  Src,
  Strike,
  Strong,
  Style,
  Sub,
  Summary,
  Sup,
  Svg,
  Table,
  Tbody,
  Td,
  Template,
  Textarea,
  TextPath,
  TextPathLowercase,
  Tfoot,
  Th,
  Thead,
  Title,
  Tr,
  Track,
  Tt,
  TypeName,
  U,
  Ul,
  Value,
  Var,
  Wbr,
  Width,
  Xmp,
  Other,
}

-- the text of a known name
abbrev pub name_text : KnownName → List ℕ
name_text known = (get_or TEXTS (tag_of the_type known) (record { now = [] })).now

-- the known name in ASCII lower case
abbrev pub lowercase_name : KnownName → KnownName
lowercase_name AltGlyph = AltGlyphLowercase
lowercase_name AltGlyphDef = AltGlyphDefLowercase
lowercase_name AltGlyphItem = AltGlyphItemLowercase
lowercase_name AnimateColor = AnimateColorLowercase
lowercase_name AnimateMotion = AnimateMotionLowercase
lowercase_name AnimateTransform = AnimateTransformLowercase
lowercase_name ClipPath = ClipPathLowercase
lowercase_name DefinitionUrl = DefinitionUrlLowercase
lowercase_name FeBlend = FeBlendLowercase
lowercase_name FeColorMatrix = FeColorMatrixLowercase
lowercase_name FeComponentTransfer = FeComponentTransferLowercase
lowercase_name FeComposite = FeCompositeLowercase
lowercase_name FeConvolveMatrix = FeConvolveMatrixLowercase
lowercase_name FeDiffuseLighting = FeDiffuseLightingLowercase
lowercase_name FeDisplacementMap = FeDisplacementMapLowercase
lowercase_name FeDistantLight = FeDistantLightLowercase
lowercase_name FeDropShadow = FeDropShadowLowercase
lowercase_name FeFlood = FeFloodLowercase
lowercase_name FeFuncA = FeFuncALowercase
lowercase_name FeFuncB = FeFuncBLowercase
lowercase_name FeFuncG = FeFuncGLowercase
lowercase_name FeFuncR = FeFuncRLowercase
lowercase_name FeGaussianBlur = FeGaussianBlurLowercase
lowercase_name FeImage = FeImageLowercase
lowercase_name FeMerge = FeMergeLowercase
lowercase_name FeMergeNode = FeMergeNodeLowercase
lowercase_name FeMorphology = FeMorphologyLowercase
lowercase_name FeOffset = FeOffsetLowercase
lowercase_name FePointLight = FePointLightLowercase
lowercase_name FeSpecularLighting = FeSpecularLightingLowercase
lowercase_name FeSpotLight = FeSpotLightLowercase
lowercase_name FeTile = FeTileLowercase
lowercase_name FeTurbulence = FeTurbulenceLowercase
lowercase_name ForeignObject = ForeignObjectLowercase
lowercase_name GlyphRef = GlyphRefLowercase
lowercase_name LinearGradient = LinearGradientLowercase
lowercase_name RadialGradient = RadialGradientLowercase
lowercase_name TextPath = TextPathLowercase
lowercase_name known = known

-- the known name in mixed case whose lower case is this one, or else this one itself
abbrev pub mixed_name : KnownName → KnownName
mixed_name AltGlyphLowercase = AltGlyph
mixed_name AltGlyphDefLowercase = AltGlyphDef
mixed_name AltGlyphItemLowercase = AltGlyphItem
mixed_name AnimateColorLowercase = AnimateColor
mixed_name AnimateMotionLowercase = AnimateMotion
mixed_name AnimateTransformLowercase = AnimateTransform
mixed_name ClipPathLowercase = ClipPath
mixed_name DefinitionUrlLowercase = DefinitionUrl
mixed_name FeBlendLowercase = FeBlend
mixed_name FeColorMatrixLowercase = FeColorMatrix
mixed_name FeComponentTransferLowercase = FeComponentTransfer
mixed_name FeCompositeLowercase = FeComposite
mixed_name FeConvolveMatrixLowercase = FeConvolveMatrix
mixed_name FeDiffuseLightingLowercase = FeDiffuseLighting
mixed_name FeDisplacementMapLowercase = FeDisplacementMap
mixed_name FeDistantLightLowercase = FeDistantLight
mixed_name FeDropShadowLowercase = FeDropShadow
mixed_name FeFloodLowercase = FeFlood
mixed_name FeFuncALowercase = FeFuncA
mixed_name FeFuncBLowercase = FeFuncB
mixed_name FeFuncGLowercase = FeFuncG
mixed_name FeFuncRLowercase = FeFuncR
mixed_name FeGaussianBlurLowercase = FeGaussianBlur
mixed_name FeImageLowercase = FeImage
mixed_name FeMergeLowercase = FeMerge
mixed_name FeMergeNodeLowercase = FeMergeNode
mixed_name FeMorphologyLowercase = FeMorphology
mixed_name FeOffsetLowercase = FeOffset
mixed_name FePointLightLowercase = FePointLight
mixed_name FeSpecularLightingLowercase = FeSpecularLighting
mixed_name FeSpotLightLowercase = FeSpotLight
mixed_name FeTileLowercase = FeTile
mixed_name FeTurbulenceLowercase = FeTurbulence
mixed_name ForeignObjectLowercase = ForeignObject
mixed_name GlyphRefLowercase = GlyphRef
mixed_name LinearGradientLowercase = LinearGradient
mixed_name RadialGradientLowercase = RadialGradient
mixed_name TextPathLowercase = TextPath
mixed_name known = known

-- all known names, in the order of `KnownName`
unfoldable pub known_names : List KnownName
known_names =
    A ∷ Action ∷ Address ∷ Alt ∷ AltGlyph ∷ AltGlyphLowercase ∷ AltGlyphDef ∷ AltGlyphDefLowercase ∷
    AltGlyphItem ∷ AltGlyphItemLowercase ∷ AnimateColor ∷ AnimateColorLowercase ∷ AnimateMotion ∷
    AnimateMotionLowercase ∷ AnimateTransform ∷ AnimateTransformLowercase ∷ AnnotationXml ∷ Applet ∷
    Area ∷ Article ∷ Aside ∷ B ∷ Base ∷ Basefont ∷ Bgsound ∷ Big ∷ Blockquote ∷ Body ∷ Br ∷ Button ∷
    Caption ∷ Center ∷ Charset ∷ Class ∷ ClipPath ∷ ClipPathLowercase ∷ Code ∷ Col ∷ Colgroup ∷
    Color ∷ Content ∷ Dd ∷ DefinitionUrl ∷ DefinitionUrlLowercase ∷ Desc ∷ Details ∷ Dialog ∷ Dir ∷
    Div ∷ Dl ∷ Dt ∷ Em ∷ Embed ∷ Encoding ∷ Face ∷ FeBlend ∷ FeBlendLowercase ∷ FeColorMatrix ∷
    FeColorMatrixLowercase ∷ FeComponentTransfer ∷ FeComponentTransferLowercase ∷ FeComposite ∷
    FeCompositeLowercase ∷ FeConvolveMatrix ∷ FeConvolveMatrixLowercase ∷ FeDiffuseLighting ∷
    FeDiffuseLightingLowercase ∷ FeDisplacementMap ∷ FeDisplacementMapLowercase ∷ FeDistantLight ∷
    FeDistantLightLowercase ∷ FeDropShadow ∷ FeDropShadowLowercase ∷ FeFlood ∷ FeFloodLowercase ∷
    FeFuncA ∷ FeFuncALowercase ∷ FeFuncB ∷ FeFuncBLowercase ∷ FeFuncG ∷ FeFuncGLowercase ∷ FeFuncR ∷
    FeFuncRLowercase ∷ FeGaussianBlur ∷ FeGaussianBlurLowercase ∷ FeImage ∷ FeImageLowercase ∷
    FeMerge ∷ FeMergeLowercase ∷ FeMergeNode ∷ FeMergeNodeLowercase ∷ FeMorphology ∷
    FeMorphologyLowercase ∷ FeOffset ∷ FeOffsetLowercase ∷ FePointLight ∷ FePointLightLowercase ∷
    FeSpecularLighting ∷ FeSpecularLightingLowercase ∷ FeSpotLight ∷ FeSpotLightLowercase ∷ FeTile ∷
    FeTileLowercase ∷ FeTurbulence ∷ FeTurbulenceLowercase ∷ Fieldset ∷ Figcaption ∷ Figure ∷ Font ∷
    Footer ∷ ForeignObject ∷ ForeignObjectLowercase ∷ Form ∷ Frame ∷ Frameset ∷ GlyphRef ∷
    GlyphRefLowercase ∷ H1 ∷ H2 ∷ H3 ∷ H4 ∷ H5 ∷ H6 ∷ Head ∷ Header ∷ Height ∷ Hgroup ∷ Hr ∷ Href ∷
    Html ∷ HttpEquiv ∷ I ∷ Id ∷ Iframe ∷ Image ∷ Img ∷ Input ∷ Isindex ∷ Keygen ∷ Lang ∷ Li ∷
    LinearGradient ∷ LinearGradientLowercase ∷ Link ∷ Listing ∷ Main ∷ Malignmark ∷ Marquee ∷ Math ∷
    Menu ∷ Meta ∷ Method ∷ Mglyph ∷ Mi ∷ Mn ∷ Mo ∷ Ms ∷ Mtext ∷ Name ∷ Nav ∷ Nobr ∷ Noembed ∷
    Noframes ∷ Noscript ∷ Object ∷ Ol ∷ Optgroup ∷ Option ∷ P ∷ Param ∷ Plaintext ∷ Pre ∷
    RadialGradient ∷ RadialGradientLowercase ∷ Rb ∷ Rel ∷ Rp ∷ Rt ∷ Rtc ∷ Ruby ∷ S ∷ Script ∷
    Search ∷ Section ∷ Select ∷ Shadowrootmode ∷ Size ∷ Small ∷ Source ∷ Span ∷ Src ∷ Strike ∷
    Strong ∷ Style ∷ Sub ∷ Summary ∷ Sup ∷ Svg ∷ Table ∷ Tbody ∷ Td ∷ Template ∷ Textarea ∷
    TextPath ∷ TextPathLowercase ∷ Tfoot ∷ Th ∷ Thead ∷ Title ∷ Tr ∷ Track ∷ Tt ∷ TypeName ∷ U ∷
    Ul ∷ Value ∷ Var ∷ Wbr ∷ Width ∷ Xmp ∷ []

-- the first of these names with this text, or `Other`
abbrev pub first_named : List KnownName → List ℕ → KnownName
first_named [] text = Other
first_named (known ∷ names) text = if bytes_eq text (name_text known) then known else first_named names text

-- the known name with this text, or `Other`
unfoldable pub known_name_of : List ℕ → KnownName
known_name_of text = first_named known_names text

-- the known name at this index of the list, or `Other`
unfoldable pub nth_name : ℕ → KnownName
nth_name n = get_or known_names n Other

-- the slot of the number of the name in lower case whose text, in lower or mixed case, is this one
unfoldable pub slot_of : List ℕ → ℕ
slot_of text =
    if length text == 0 || nat_lt 19 (length text) then 0
    else (992 * length text + 735 * bit_or (slice_index text 0) 32 + 876 * bit_or (slice_index text (2 * length text / 5)) 32 + 1012 * bit_or (slice_index text (length text - 1)) 32) % 1024
