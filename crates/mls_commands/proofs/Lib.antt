mod AllowedRules
