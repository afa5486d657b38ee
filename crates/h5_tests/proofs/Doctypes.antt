-- Doctypes: parse errors, and quirks modes.
use Rattle.std.proofs.Common.{◌≡◌, ℕ, ◌-◌, Bool, true, false, List, ◌++◌, map, length, take, replicate, refl, codes, Option, Some, None}
use Rattle.std.specs.Str.{str_to_ascii_uppercase}
use Rattle.h5_token.specs.TokenText.{DoctypeText}
use Rattle.h5_interface.specs.declared.marks.QuirksMode.{QuirksMode}
use Rattle.h5_interface.specs.declared.marks.QuirksMode.TheVariants.{LimitedQuirks, NoQuirks, Quirks}
use Rattle.h5_tables.specs.Doctypes.{good_identifiers, html4_public_prefixes, is_good_doctype, limited_quirky_public_prefixes, quirks_of, quirky_public_ids, quirky_public_prefixes, quirky_system_ids}

abbrev doctype : List ℕ → (public_id system_id : Option (List ℕ)) → DoctypeText
doctype name public_id system_id = record { name = Some name; public_id = public_id; system_id = system_id; force_quirks = false }

-- true if a doctype isn't an error, and its quirks mode in a document
abbrev judged : DoctypeText → Bool × QuirksMode
judged d = (is_good_doctype d, quirks_of false d)

html : judged (doctype (codes "html") None None) ≡ (true, NoQuirks)
unfolding good_identifiers
html = refl

html_in_capitals : judged (doctype (codes "HTML") None None) ≡ (false, Quirks)
unfolding good_identifiers
html_in_capitals = refl

legacy : judged (doctype (codes "html") None (Some (codes "about:legacy-compat"))) ≡ (true, NoQuirks)
unfolding good_identifiers quirky_system_ids
legacy = refl

abbrev html4 : List ℕ
html4 = codes "-//W3C//DTD HTML 4.01 Transitional//EN"

public_html : judged (doctype (codes "html") (Some (codes "HTML")) None) ≡ (false, Quirks)
unfolding good_identifiers quirky_public_ids
public_html = refl

html4_alone : judged (doctype (codes "html") (Some html4) None) ≡ (false, Quirks)
unfolding good_identifiers quirky_public_ids quirky_public_prefixes limited_quirky_public_prefixes html4_public_prefixes
html4_alone = refl

html4_with_a_system_identifier : judged (doctype (codes "html") (Some html4) (Some (codes "http://example.org/"))) ≡ (false, LimitedQuirks)
unfolding good_identifiers quirky_public_ids quirky_system_ids quirky_public_prefixes limited_quirky_public_prefixes html4_public_prefixes
html4_with_a_system_identifier = refl

xhtml : judged (doctype (codes "html") (Some (codes "-//W3C//DTD XHTML 1.0 Transitional//EN")) (Some (codes "u"))) ≡ (false, LimitedQuirks)
unfolding good_identifiers quirky_public_ids quirky_system_ids quirky_public_prefixes limited_quirky_public_prefixes
xhtml = refl

-- in the `srcdoc` of an `iframe` it is an error as well, but in no-quirks mode
html4_in_a_srcdoc : quirks_of true (doctype (codes "html") (Some html4) None) ≡ NoQuirks
html4_in_a_srcdoc = refl

forced_in_a_srcdoc : quirks_of true (record (doctype (codes "html") (Some html4) None) { force_quirks = true }) ≡ Quirks
forced_in_a_srcdoc = refl

forced_is_bad : is_good_doctype (record (doctype (codes "html") (Some html4) None) { force_quirks = true }) ≡ false
unfolding good_identifiers
forced_is_bad = refl

abbrev quirks_by : List ℕ → QuirksMode
quirks_by public_id = quirks_of false (doctype (codes "html") (Some public_id) None)

-- each of the 54 prefixes of public identifiers that mean quirks
prefixes_alone : map quirks_by quirky_public_prefixes ≡ replicate 54 Quirks
unfolding quirky_public_ids quirky_public_prefixes
prefixes_alone = refl

prefixes_with_more : map (λ prefix. quirks_by (prefix ++ codes "x")) quirky_public_prefixes ≡ replicate 54 Quirks
unfolding quirky_public_ids quirky_public_prefixes
prefixes_with_more = refl

prefixes_in_capitals : map (λ prefix. quirks_by (str_to_ascii_uppercase prefix)) quirky_public_prefixes ≡ replicate 54 Quirks
unfolding quirky_public_ids quirky_public_prefixes
prefixes_in_capitals = refl

-- without its last '/' it isn't one
prefixes_cut_short : map (λ prefix. quirks_by (take (length prefix - 1) prefix)) quirky_public_prefixes ≡ replicate 54 NoQuirks
unfolding quirky_public_ids quirky_public_prefixes limited_quirky_public_prefixes html4_public_prefixes
prefixes_cut_short = refl
