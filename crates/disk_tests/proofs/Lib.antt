mod WholeTexts
mod Opened
mod Fronts
