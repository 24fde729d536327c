mod Constants
