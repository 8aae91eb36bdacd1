mod NamedGroups
