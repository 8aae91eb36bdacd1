-- The strict rules (own rule), by number and name. Used by contracts.
use Rattle.std.specs.Prelude.{ℕ, List, codes}
use Rattle.mls_msgs.specs.declared.strict_rule.StrictRule.{StrictRule}
use Rattle.mls_msgs.specs.declared.strict_rule.StrictRule.TheVariants.{TagLength, ExtensionRepeated, ExtensionMisplaced, ExtensionUnreadable, KeyForm, CiphertextForm, GroupUnlisted, DefaultListed, LifetimeEmpty, CertificateKey, PskAhead, GroupExtensionUnsupported, PointOffCurve}

-- `strict_number rule` is the number of a strict rule, from 40 to 52.
abbrev pub strict_number : StrictRule → ℕ
strict_number TagLength = 40
strict_number ExtensionRepeated = 41
strict_number ExtensionMisplaced = 42
strict_number ExtensionUnreadable = 43
strict_number KeyForm = 44
strict_number CiphertextForm = 45
strict_number GroupUnlisted = 46
strict_number DefaultListed = 47
strict_number LifetimeEmpty = 48
strict_number CertificateKey = 49
strict_number PskAhead = 50
strict_number GroupExtensionUnsupported = 51
strict_number PointOffCurve = 52

-- `strict_name rule` is its name.
abbrev pub strict_name : StrictRule → List ℕ
strict_name TagLength = codes "TagLength"
strict_name ExtensionRepeated = codes "ExtensionRepeated"
strict_name ExtensionMisplaced = codes "ExtensionMisplaced"
strict_name ExtensionUnreadable = codes "ExtensionUnreadable"
strict_name KeyForm = codes "KeyForm"
strict_name CiphertextForm = codes "CiphertextForm"
strict_name GroupUnlisted = codes "GroupUnlisted"
strict_name DefaultListed = codes "DefaultListed"
strict_name LifetimeEmpty = codes "LifetimeEmpty"
strict_name CertificateKey = codes "CertificateKey"
strict_name PskAhead = codes "PskAhead"
strict_name GroupExtensionUnsupported = codes "GroupExtensionUnsupported"
strict_name PointOffCurve = codes "PointOffCurve"
