-- The reasons why a message other than a PublicMessage is not fit: their numbers and their names. Used by contracts.
use Rattle.std.specs.Prelude.{ℕ, List, codes}
use Rattle.mls_apply.specs.declared.package_refs.PackageRefFault.{PackageRefFault}
use Rattle.mls_apply.specs.declared.package_refs.PackageRefFault.TheVariants as faults
use Rattle.mls_examine.specs.declared.unfit.Unfit.{Unfit}
use Rattle.mls_examine.specs.declared.unfit.Unfit.TheVariants as unfit

-- `number_of e` is the number of a reason: 0 for OutOfMemory. No refusal but OutOfMemory has one of these numbers.
abbrev pub number_of : Unfit → ℕ
number_of unfit.OutOfMemory = 0
number_of unfit.Malformed = 61
number_of unfit.PublicMessage = 62
number_of unfit.GroupOver = 63
number_of unfit.LastEpoch = 64
number_of unfit.WrongGroup = 65
number_of unfit.WrongVersion = 66
number_of unfit.WrongSuite = 67
number_of unfit.PastEpoch = 68
number_of unfit.TreeHashDiffers = 69
number_of unfit.ConfirmedDiffers = 70
number_of unfit.ExtensionsDiffer = 71
number_of unfit.TagDiffers = 72
number_of unfit.SignerNotMember = 73
number_of unfit.TreeDiffers = 74
number_of (unfit.StartRefused fault) = 75
number_of unfit.SignerUnknown = 76
number_of unfit.ExternalPubInvalid = 77
number_of unfit.LeafSource = 78
number_of unfit.InitKeyReused = 79
number_of unfit.TooManyLeaves = 80
number_of unfit.KeyRepeated = 81
number_of (unfit.Member fault) = 82
number_of (unfit.Unsigned signatures) = 87
number_of (unfit.Strict r) = 89

-- `name_of e` is the name of a reason. A report adds the fault of a start to StartRefused, that of a leaf node to Member, and the
-- rule to Strict.
abbrev pub name_of : Unfit → List ℕ
name_of unfit.OutOfMemory = codes "OutOfMemory"
name_of unfit.Malformed = codes "Malformed"
name_of unfit.PublicMessage = codes "PublicMessage"
name_of unfit.GroupOver = codes "GroupOver"
name_of unfit.LastEpoch = codes "LastEpoch"
name_of unfit.WrongGroup = codes "WrongGroup"
name_of unfit.WrongVersion = codes "WrongVersion"
name_of unfit.WrongSuite = codes "WrongSuite"
name_of unfit.PastEpoch = codes "PastEpoch"
name_of unfit.TreeHashDiffers = codes "TreeHashDiffers"
name_of unfit.ConfirmedDiffers = codes "ConfirmedDiffers"
name_of unfit.ExtensionsDiffer = codes "ExtensionsDiffer"
name_of unfit.TagDiffers = codes "TagDiffers"
name_of unfit.SignerNotMember = codes "SignerNotMember"
name_of unfit.TreeDiffers = codes "TreeDiffers"
name_of (unfit.StartRefused fault) = codes "StartRefused"
name_of unfit.SignerUnknown = codes "SignerUnknown"
name_of unfit.ExternalPubInvalid = codes "ExternalPubInvalid"
name_of unfit.LeafSource = codes "LeafSource"
name_of unfit.InitKeyReused = codes "InitKeyReused"
name_of unfit.TooManyLeaves = codes "TooManyLeaves"
name_of unfit.KeyRepeated = codes "KeyRepeated"
name_of (unfit.Member fault) = codes "Member"
name_of (unfit.Unsigned signatures) = codes "Unsigned"
name_of (unfit.Strict r) = codes "Strict"

-- `unreferenced fault` is the reason why a KeyPackage without a KeyPackageRef is not good.
abbrev pub unreferenced : PackageRefFault → Unfit
unreferenced faults.UnsupportedSuite = unfit.WrongSuite
unreferenced faults.TooLong = unfit.Malformed
unreferenced faults.OutOfMemory = unfit.OutOfMemory
